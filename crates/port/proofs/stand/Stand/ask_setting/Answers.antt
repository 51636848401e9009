-- `ask_setting` asks for one of the settings, at the register that its place says, or for the write after them.
use mathlib.Core.Path.{ap, sym}
use borrow.Author.Tests.{ltb-false}
use native.Mathlib.Omega.{arith}
use lib.ListN.{take}
use Rattle.port.proofs.Nth.{at_setting, length_settings}
use Rattle.port.proofs.Totals.{nth_last}
use Rattle.port.specs.Ask.{ask_for}
use Rattle.port.specs.InHand.{alternates}
use Rattle.service.specs.Act.{writes}
use Rattle.port.proofs.stand.Stand.ask_setting.Goals as goal

pub returns-in-Some : goal.returns-in-Some
unfolding ask_for
returns-in-Some c =
    let found = rw c.bytes.ensures at c.in-Some.ensures.lookup.3 in
    rw (found.1 0) (sym (ap ask_for ((at_setting 0 2 _ (writes 3 0x40) c.args.i found.0).0 c.if-i-eq0.true)))

pub returns-in-Some-2 : goal.returns-in-Some-2
unfolding ask_for
returns-in-Some-2 c =
    let found = rw c.bytes.ensures at c.in-Some.ensures.lookup.3 in
    rw (found.1 0) (sym (ap ask_for ((at_setting 0 2 _ (writes 3 0x40) c.args.i found.0).1 c.if-i-eq0.false)))

pub returns-in-None : goal.returns-in-None
unfolding ask_for
returns-in-None c =
    let args = c.args in
    let xs = take args.self.job.n args.payload.now in
    let past = rw c.bytes.ensures at (ltb-false _ _ (sym c.in-None.ensures.lookup.0)) in
    sym (ap ask_for (nth_last (alternates 0 2 xs) (writes 3 0x40) args.i (omega (arith, length_settings 0 2 xs))))
