-- `byte_out` is `byte_out`: what is known at each return settles the tests of the definition.
use mathlib.Core.Bool.{true}
use mathlib.Core.List.{[], ◌∷◌}
use mathlib.Core.Path.{◌≡◌, refl, ◌∙◌}
use Rattle.answer.specs.Refusal.{refusal_of, value_of}
use Rattle.control.proofs.Turning.{at_turn, at_turns, except}
use Rattle.control.specs.Turn.{data_turns, address, send, slave_send}
use Rattle.controller.specs.Reply.{outcome, refuses}
use Rattle.controller.specs.Transfer.{byte_out}
use Rattle.notation.proofs.Cases.{cases}
use Rattle.notation.specs.Choice.{when◌then◌else◌}
use Rattle.controller.proofs.SoundParts.{moving}
use borrow.Enum.Refused.{opened}
use Rattle.controller.proofs.record.Controller.byte_out.Goals.{then-self, else-self}
use Rattle.controller.proofs.record.Controller.byte_out.Goals as goal

pub data_out-requires : goal.data_out-requires
data_out-requires c =
    moving c.args.self.now c.requires (at_turn send c.args.self.now.turn c.in-Send.in-Send-own.keys2 true data_turns refl)

pub data_out-requires-in-SlaveSend : goal.data_out-requires-in-SlaveSend
data_out-requires-in-SlaveSend c =
    moving c.args.self.now c.requires (at_turn slave_send c.args.self.now.turn c.in-SlaveSend.in-SlaveSend-own.keys3 true data_turns refl)

pub returns-in-Address : goal.returns-in-Address
unfolding byte_out
returns-in-Address c =
    c.give.ensures ∙ rw (c.address_status.ensures, c.direction-direction.ensures)
    (search (at_turn address c.args.self.now.turn c.in-Address.in-Address-own.keys1, cases))

pub returns-in-Send : goal.returns-in-Send
unfolding byte_out
returns-in-Send c = search (at_turn send c.args.self.now.turn c.in-Send.in-Send-own.keys2, cases)

pub returns-after-self : goal.returns-after-self
unfolding byte_out
returns-after-self c =
    let done : c.if-self.done ≡ (when c.args.self.now.control.aa then 0xB8 else 0xC8) = elim c.if-self.branch [
      | then-self w ↦ w.done-is ∙ search cases
      | else-self w ↦ w.done-is ∙ search cases
    ] in
    c.data_out-in-SlaveSend.ensures ∙ rw done
    (search (at_turn slave_send c.args.self.now.turn c.in-SlaveSend.in-SlaveSend-own.keys3, cases))

pub returns-in_default : goal.returns-in_default
unfolding byte_out outcome refusal_of value_of refuses
returns-in_default c = search (at_turns (except (address ∷ send ∷ slave_send ∷ [])) c.args.self.now.turn (opened c.in_default.in_default-own.keys4), cases)
