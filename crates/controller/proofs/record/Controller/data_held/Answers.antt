-- `data_held` is `data_held`: what is known at each return settles the tests of the definition.
use mathlib.Core.List.{[], ◌∷◌}
use Rattle.control.proofs.Turning.{at_turn, at_turns, except}
use Rattle.control.specs.Turn.{free, restarting}
use Rattle.controller.proofs.Outcomes.{outcomes}
use Rattle.controller.specs.Condition.{data_held}
use borrow.Enum.Refused.{opened}
use Rattle.controller.proofs.record.Controller.data_held.Goals as goal

pub returns-in-Free : goal.returns-in-Free
unfolding data_held
returns-in-Free c = search (at_turn free c.args.self.now.turn c.in-Free.in-Free-own.keys1, outcomes)

pub returns-in-Restarting : goal.returns-in-Restarting
unfolding data_held
returns-in-Restarting c = search (at_turn restarting c.args.self.now.turn c.in-Restarting.in-Restarting-own.keys2, outcomes)

pub returns-in_default : goal.returns-in_default
unfolding data_held
returns-in_default c = search (at_turn free c.args.self.now.turn c.in-Free.in-Free-own.keys1, outcomes)

pub returns-in_default-2 : goal.returns-in_default-2
unfolding data_held
returns-in_default-2 c = search (at_turns (except (free ∷ restarting ∷ [])) c.args.self.now.turn (opened c.in_default.in_default-own.keys3), outcomes)
