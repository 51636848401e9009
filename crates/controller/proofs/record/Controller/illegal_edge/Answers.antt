-- `illegal_edge` is `illegal_edge`: what is known at each return settles the tests of the definition.
use mathlib.Core.List.{[], ◌∷◌}
use Rattle.control.proofs.Turning.{at_turns, except}
use Rattle.control.specs.Turn.{off, host, free, busy, listen}
use Rattle.controller.proofs.Outcomes.{outcomes}
use Rattle.controller.specs.Condition.{illegal_edge}
use borrow.Enum.Refused.{opened}
use Rattle.controller.proofs.record.Controller.illegal_edge.Goals as goal

pub returns-in-Off : goal.returns-in-Off
unfolding illegal_edge
returns-in-Off c = search (at_turns (off ∷ host ∷ []) c.args.self.now.turn c.in-Off.in-Off-own.keys1, outcomes)

pub returns-in-Free : goal.returns-in-Free
unfolding illegal_edge
returns-in-Free c = search (at_turns (free ∷ busy ∷ listen ∷ []) c.args.self.now.turn c.in-Free.in-Free-own.keys2, outcomes)

pub returns-in_default : goal.returns-in_default
unfolding illegal_edge
returns-in_default c = search (at_turns (except (off ∷ host ∷ free ∷ busy ∷ listen ∷ [])) c.args.self.now.turn (opened c.in_default.in_default-own.keys3), outcomes)
