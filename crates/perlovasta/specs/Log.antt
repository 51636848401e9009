-- The eight bytes of the library's log for one group: what the access or event answered, and the record after it (document 01, The
-- controller record).
use Rattle.std.specs.Prelude.{Bool, List, [], ◌∷◌, ℕ, ◌+◌, ◌*◌, ◌%◌, eqb}
use Rattle.answer.specs.Refusal.{Answer, refusal_of, value_of}
use Rattle.control.specs.Reason.{reason_number}
use Rattle.control.specs.Turn.{host, status_of}
use Rattle.control.specs.declared.reason.Reason.{Reason}
use Rattle.control.specs.declared.turn.Turn.{Turn}
use Rattle.controller.specs.Access.{read_of}
use Rattle.controller.specs.Reply.{Outcome}
use Rattle.controller.specs.declared.record.Controller.{Controller}
use Rattle.notation.specs.Choice.{when◌then◌else◌}
use Rattle.virtual_chip.specs.Numbers.{host_start, turn_number}

-- the turn's number (crates/virtual_chip, Numbers.antt); "at A0h, whether a STOP or a START came": a START is told there alone
unfoldable pub logged_turn : Turn → ℕ
logged_turn turn =
    when eqb (turn_number turn) host_start then (when eqb (status_of turn) 0xA0 then host_start else host)
    else turn_number turn

-- In hexadecimal: the low digit is the pointer, the high digit the reason's number, and 8 more where the software reset is armed. (A pointer is at most
-- 7: of a larger number the low four bits count.)
unfoldable pub pointer_byte : ℕ → Reason → Bool → ℕ
pointer_byte pointer reason armed =
    let digits = 16 * reason_number reason + pointer % 16 in
    when armed then 128 + digits else digits

-- an answer in the paper's numbers, with the record after it
unfoldable pub leaves : Answer → Controller → Outcome
leaves answer c = record { next = c; refused = refusal_of answer; value = value_of answer }

-- refusal number (0 accepted), value, what registers 0 and 3 read after it, hand place, moved count, pointer with reason and armed, turn
unfoldable pub entry_of : Outcome → List ℕ
entry_of o =
    o.refused ∷ o.value ∷ (read_of o.next 0).value ∷ (read_of o.next 3).value ∷ o.next.hand ∷ o.next.moved ∷
    pointer_byte o.next.pointer o.next.reason o.next.armed ∷ logged_turn o.next.turn ∷ []
