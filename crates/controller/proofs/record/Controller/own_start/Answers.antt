-- `own_start` is `own_start`: what is known at each return settles the tests of the definition.
use mathlib.Core.List.{[], ◌∷◌}
use Rattle.control.proofs.Turning.{at_turn, at_turns, except}
use Rattle.control.specs.Turn.{free, restarting}
use Rattle.controller.proofs.Outcomes.{outcomes}
use Rattle.controller.specs.Condition.{own_start}
use borrow.Enum.Refused.{opened}
use Rattle.controller.proofs.record.Controller.own_start.Goals as goal

pub returns-in-Free : goal.returns-in-Free
unfolding own_start
returns-in-Free c = search (at_turn free c.args.self.now.turn c.in-Free.in-Free-own.keys1, outcomes)

pub returns-in-Restarting : goal.returns-in-Restarting
unfolding own_start
returns-in-Restarting c = search (at_turn restarting c.args.self.now.turn c.in-Restarting.in-Restarting-own.keys2, outcomes)

pub returns-in_default : goal.returns-in_default
unfolding own_start
returns-in_default c = search (at_turn free c.args.self.now.turn c.in-Free.in-Free-own.keys1, outcomes)

pub returns-in_default-2 : goal.returns-in_default-2
unfolding own_start
returns-in_default-2 c = search (at_turns (except (free ∷ restarting ∷ [])) c.args.self.now.turn (opened c.in_default.in_default-own.keys3), outcomes)
