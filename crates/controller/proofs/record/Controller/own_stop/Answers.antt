-- `own_stop` is `own_stop`: what is known at each return settles the tests of the definition.
use mathlib.Core.List.{[], ◌∷◌}
use Rattle.control.proofs.Turning.{at_turn, at_turns, except}
use Rattle.control.specs.Turn.{stopping}
use Rattle.controller.proofs.Outcomes.{outcomes}
use Rattle.controller.specs.Condition.{own_stop}
use borrow.Enum.Refused.{opened}
use Rattle.controller.proofs.record.Controller.own_stop.Goals as goal

pub returns-in-Stopping : goal.returns-in-Stopping
unfolding own_stop
returns-in-Stopping c = search (at_turn stopping c.args.self.now.turn c.in-Stopping.in-Stopping-own.keys1, outcomes)

pub returns-in_default : goal.returns-in_default
unfolding own_stop
returns-in_default c = search (at_turns (except (stopping ∷ [])) c.args.self.now.turn (opened c.in_default.in_default-own.keys2), outcomes)
