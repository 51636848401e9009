-- What the calls on a controller in lent bytes give, whatever the bytes hold.
use Rattle.std.specs.Prelude.{List, [], ℕ, ◌+◌, ◌*◌, eqb, ltb, length, Result, Ok, Err}
use Rattle.answer.specs.Refusal.{refusal_number}
use Rattle.answer.specs.declared.Refusal.{Refusal}
use Rattle.controller.specs.Reply.{Outcome}
use Rattle.controller.specs.Reset.{fresh}
use Rattle.notation.specs.Choice.{when◌then◌else◌}
use Rattle.requests.specs.Groups.{group_of}
use Rattle.virtual_chip.specs.RecordBytes.{record_size, bytes_of, is_record, record_of}

-- its result, and the bytes that the memory begins with after it, its rest as it was
pub record ChipCall : Type 0 where
  pub answer : ℕ
  pub bytes : List ℕ

-- refused with this number: nothing is written
unfoldable pub refusing : ℕ → ChipCall
refusing number = record { answer = number; bytes = [] }

-- a fresh controller; 10 where there is no room for it
unfoldable pub fresh_call : List ℕ → ChipCall
fresh_call m = when ltb (length m) record_size then refusing 10 else record { answer = 0; bytes = bytes_of fresh }

-- its result as a number, 0 where it is made
unfoldable pub made_number : Result (Unit {0}) Refusal → ℕ
made_number (Ok x) = 0
made_number (Err why) = refusal_number why

-- in one number: the refusal, 0 for accepted, and 256 times the value
unfoldable pub packed : Outcome → ℕ
packed o = o.refused + 256 * o.value

-- accepted, the next record is stored; "A refused access or event changes nothing at all"
unfoldable pub replying : Outcome → ChipCall
replying o = when eqb o.refused 0 then record { answer = packed o; bytes = bytes_of o.next } else refusing (packed o)

-- kind 0 reads a register, 1 writes it, any other gives an event. Bytes that are no record: refused 10, whatever is asked
unfoldable pub access_call : List ℕ → ℕ → ℕ → ℕ → ChipCall
access_call m kind place value = when is_record m then replying (group_of (record_of m) kind place value) else refusing 10
