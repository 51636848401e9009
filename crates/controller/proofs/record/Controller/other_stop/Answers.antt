-- `other_stop` is `other_stop`: what is known at each return settles the tests of the definition.
use mathlib.Core.List.{[], ◌∷◌}
use mathlib.Core.Path.{sym, ◌∙◌}
use Rattle.control.proofs.Turning.{at_turn, at_turns, except}
use Rattle.control.specs.Turn.{busy, slave_receive}
use Rattle.controller.proofs.Outcomes.{outcomes}
use Rattle.controller.specs.Condition.{other_stop}
use borrow.Enum.Refused.{opened}
use Rattle.controller.proofs.record.Controller.other_stop.Goals as goal

pub returns-in-Busy : goal.returns-in-Busy
unfolding other_stop
returns-in-Busy c = search (at_turn busy c.args.self.now.turn c.in-Busy.in-Busy-own.keys1, outcomes)

pub returns-in-SlaveReceive : goal.returns-in-SlaveReceive
unfolding other_stop
returns-in-SlaveReceive c = search (at_turn slave_receive c.args.self.now.turn c.in-SlaveReceive.in-SlaveReceive-own.keys2, outcomes)

pub returns-in_default : goal.returns-in_default
unfolding other_stop
returns-in_default c = search (at_turns (except (busy ∷ slave_receive ∷ [])) c.args.self.now.turn (opened c.in_default.in_default-own.keys3), sym c.is_at_38h.ensures ∙ c.if-is_at_38h.true, outcomes)

pub returns-in_default-2 : goal.returns-in_default-2
unfolding other_stop
returns-in_default-2 c = search (at_turns (except (busy ∷ slave_receive ∷ [])) c.args.self.now.turn (opened c.in_default.in_default-own.keys3), sym c.is_at_38h.ensures ∙ c.if-is_at_38h.false, outcomes)
