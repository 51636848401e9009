-- `other_start` is `other_start`: what is known at each return settles the tests of the definition.
use mathlib.Core.List.{[], ◌∷◌}
use Rattle.control.proofs.Turning.{at_turn, at_turns, except}
use Rattle.control.specs.Turn.{free, busy, restarting, slave_receive}
use Rattle.controller.proofs.Outcomes.{outcomes}
use Rattle.controller.specs.Condition.{other_start}
use borrow.Enum.Refused.{opened}
use Rattle.controller.proofs.record.Controller.other_start.Goals as goal

pub returns-in-Free : goal.returns-in-Free
unfolding other_start
returns-in-Free c = search (at_turns (free ∷ busy ∷ []) c.args.self.now.turn c.in-Free.in-Free-own.keys1, outcomes)

pub returns-in-Restarting : goal.returns-in-Restarting
unfolding other_start
returns-in-Restarting c = search (at_turn restarting c.args.self.now.turn c.in-Restarting.in-Restarting-own.keys2, outcomes)

pub returns-in-SlaveReceive : goal.returns-in-SlaveReceive
unfolding other_start
returns-in-SlaveReceive c = search (at_turn slave_receive c.args.self.now.turn c.in-SlaveReceive.in-SlaveReceive-own.keys3, outcomes)

pub returns-in_default : goal.returns-in_default
unfolding other_start
returns-in_default c = search (at_turns (except (free ∷ busy ∷ restarting ∷ slave_receive ∷ [])) c.args.self.now.turn (opened c.in_default.in_default-own.keys4), outcomes)
