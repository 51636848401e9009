-- `bring_back` is `recover_of`: what `is_bad` answered settles the test of the definition, and says that there are at most 12 settings.
use mathlib.Core.Path.{sym, ◌∙◌}
use native.Mathlib.Omega.{arith}
use borrow.Author.Tests.{ltb-false}
use lib.ListN.{length}
use Rattle.notation.proofs.Cases.{or-left-off, cases}
use Rattle.port.specs.Begin.{bad_settings, recover_of}
use Rattle.port.proofs.stand.Stand.bring_back.Goals as goal

pub returns-then-is_bad : goal.returns-then-is_bad
unfolding recover_of
returns-then-is_bad c =
    c.break_off.ensures
    ∙ rw c.is_unsettled.ensures (search (sym c.is_bad.ensures ∙ c.if-is_bad.true, cases))

pub overflow_cast-settings : goal.overflow_cast-settings
unfolding bad_settings
overflow_cast-settings c =
    let few = or-left-off _ _ (sym c.is_bad.ensures ∙ c.if-is_bad.false) in
    omega (arith, ltb-false 12 (length c.args.settings.now) few)

pub returns : goal.returns
unfolding recover_of
returns c =
    c.begin.ensures
    ∙ rw c.no_job.ensures (search (sym c.is_bad.ensures ∙ c.if-is_bad.false, cases))
