-- `clock_held` is `clock_held`: what is known at each return settles the tests of the definition.
use mathlib.Core.Bool.{Bool, true, false}
use mathlib.Core.List.{[], ◌∷◌}
use mathlib.Core.Path.{◌≡◌, sym, ap, ◌∙◌}
use Rattle.control.proofs.Turning.{at_turns, except, idle_not_38h}
use Rattle.control.specs.Turn.{off, host, at38h}
use Rattle.controller.proofs.Outcomes.{refused, outcomes}
use Rattle.controller.specs.Condition.{clock_held}
use Rattle.controller.specs.Reply.{changes_status}
use Rattle.notation.proofs.Cases.{when-true, when-false}
use Rattle.notation.specs.Choice.{◌and◌}
use borrow.Enum.Refused.{opened}
use Rattle.controller.proofs.record.Controller.clock_held.Goals as goal

-- what the test for 38h with TE 1 came to, of what the call answered
both-asked : (te : Bool) {asked there v : Bool} → asked ≡ there → (asked and te) ≡ v → (there and te) ≡ v
both-asked te e h = ap (λ (b : Bool). b and te) (sym e) ∙ h

pub returns-then-is_at_38h-enabled : goal.returns-then-is_at_38h-enabled
unfolding clock_held changes_status ◌and◌
returns-then-is_at_38h-enabled c =
    rw c.set_status.ensures (search (both-asked _ c.is_at_38h.ensures c.if-is_at_38h-enabled.true, outcomes))

pub returns-else-is_at_38h-enabled : goal.returns-else-is_at_38h-enabled
unfolding clock_held ◌and◌
returns-else-is_at_38h-enabled c =
    let here = at_turns (off ∷ host ∷ []) c.args.self.now.turn c.in-Off.in-Off-own.keys1 true (off ∷ host ∷ []) tt in
    refused _ _ ∙ sym (when-false _ _ _ (both-asked _ c.is_at_38h.ensures c.if-is_at_38h-enabled.false) ∙ when-true _ _ _ here)

-- in the other turns, which are not Host
pub returns-in_default : goal.returns-in_default
unfolding clock_held
returns-in_default c =
    let others = opened c.in_default.in_default-own.keys2 in
    let elsewhere = idle_not_38h _ (at_turns (except (off ∷ host ∷ [])) _ others false (host ∷ []) tt) in
    search (elsewhere, at_turns (except (off ∷ host ∷ [])) c.args.self.now.turn others, outcomes)

pub returns-in_default-2 : goal.returns-in_default-2
unfolding clock_held
returns-in_default-2 c =
    let others = opened c.in_default.in_default-own.keys2 in
    let elsewhere = idle_not_38h _ (at_turns (except (off ∷ host ∷ [])) _ others false (host ∷ []) tt) in
    search (elsewhere, at_turns (except (off ∷ host ∷ [])) c.args.self.now.turn others, outcomes)
