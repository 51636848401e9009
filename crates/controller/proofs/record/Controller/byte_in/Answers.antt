-- `byte_in` is `byte_in`: what is known at each return settles the tests of the definition.
use mathlib.Core.Bool.{true}
use mathlib.Core.List.{[], ◌∷◌}
use mathlib.Core.Path.{◌∙◌, refl}
use Rattle.answer.specs.Refusal.{refusal_of, value_of}
use Rattle.control.proofs.Turning.{at_turn, at_turns, except}
use Rattle.control.specs.Turn.{data_turns, kind, called_of, receive, slave_receive}
use Rattle.controller.specs.Reply.{outcome, refuses}
use Rattle.controller.specs.Transfer.{byte_in}
use Rattle.notation.proofs.Cases.{cases}
use Rattle.notation.specs.Choice.{among, when◌then◌else◌}
use Rattle.controller.proofs.SoundParts.{moving}
use borrow.Enum.Refused.{opened}
use Rattle.controller.proofs.record.Controller.byte_in.Goals as goal

pub data_in-requires : goal.data_in-requires
data_in-requires c =
    moving c.args.self.now c.requires (at_turn receive c.args.self.now.turn c.in-Receive.in-Receive-own.keys1 true data_turns refl)

pub slave_in-requires : goal.slave_in-requires
slave_in-requires c =
    moving c.args.self.now c.requires (at_turn slave_receive c.args.self.now.turn c.in-SlaveReceive.in-SlaveReceive-own.keys2 true data_turns refl)

pub returns-in-Receive : goal.returns-in-Receive
unfolding byte_in
returns-in-Receive c = search (at_turn receive c.args.self.now.turn c.in-Receive.in-Receive-own.keys1, cases)

pub returns-in-SlaveReceive : goal.returns-in-SlaveReceive
unfolding byte_in kind called_of among when◌then◌else◌
returns-in-SlaveReceive c = c.slave_in.ensures ∙ rw c.in-SlaveReceive.is

pub returns-in_default : goal.returns-in_default
unfolding byte_in outcome refusal_of value_of refuses
returns-in_default c = search (at_turns (except (receive ∷ slave_receive ∷ [])) c.args.self.now.turn (opened c.in_default.in_default-own.keys3), cases)
