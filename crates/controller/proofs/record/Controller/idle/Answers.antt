-- `idle` is `idle`: what is known at each return settles the tests of the definition.
use mathlib.Core.List.{[], ◌∷◌}
use Rattle.control.proofs.Turning.{at_turns, except}
use Rattle.control.specs.Turn.{busy, listen}
use Rattle.controller.proofs.Outcomes.{outcomes}
use Rattle.controller.specs.Condition.{idle}
use borrow.Enum.Refused.{opened}
use Rattle.controller.proofs.record.Controller.idle.Goals as goal

pub returns-in-Busy : goal.returns-in-Busy
unfolding idle
returns-in-Busy c =
    search (
      at_turns (busy ∷ listen ∷ []) c.args.self.now.turn c.in-Busy.in-Busy-own.keys1,
      outcomes,
    )

pub returns-in_default : goal.returns-in_default
unfolding idle
returns-in_default c = search outcomes

pub returns-in_default-2 : goal.returns-in_default-2
unfolding idle
returns-in_default-2 c = search outcomes

pub returns-in_default-3 : goal.returns-in_default-3
unfolding idle
returns-in_default-3 c =
    search (
      at_turns (except (busy ∷ listen ∷ [])) c.args.self.now.turn (opened c.in_default.in_default-own.keys2),
      outcomes,
    )
