-- Document 02, request 8, "Keep why a move ended": the reason that a status sets. (That a reset sets one is said by `Reset.reset`, crates/controller.)
use Rattle.std.specs.Prelude.{List, [], ◌∷◌, ℕ}
use Rattle.control.specs.Turn.{faults}
use Rattle.control.specs.declared.reason.Reason.TheVariants.{NoneYet, CountReached, Nack, Outside, ArbitrationLost, Fault, Reset}
use Rattle.control.specs.declared.reason.Reason.{Reason}
use Rattle.notation.specs.Choice.{when◌then◌else◌, among}

-- "Count reached: 18h, 28h, 40h, 50h, 80h, B8h, C8h, E0h."
abbrev pub count_reached : List ℕ
count_reached = 0x18 ∷ 0x28 ∷ 0x40 ∷ 0x50 ∷ 0x80 ∷ 0xB8 ∷ 0xC8 ∷ 0xE0 ∷ []

-- "NACK, also on the last byte: 20h, 30h, 48h, 58h, 88h, C0h, E8h."
abbrev pub nacked : List ℕ
nacked = 0x20 ∷ 0x30 ∷ 0x48 ∷ 0x58 ∷ 0x88 ∷ 0xC0 ∷ 0xE8 ∷ []

-- "Outside: A0h."
abbrev pub ended_outside : List ℕ
ended_outside = 0xA0 ∷ []

-- "Arbitration: 38h, 68h, B0h, D8h."
abbrev pub arbitration_lost : List ℕ
arbitration_lost = 0x38 ∷ 0x68 ∷ 0xB0 ∷ 0xD8 ∷ []

-- the reason that a status sets. "Fault: 00h, 70h, 78h." (`faults`, in Turn.antt); "All others .. none yet". (No event gives F8h.)
unfoldable pub reason_of : ℕ → Reason
reason_of status =
    when among status count_reached then CountReached
    else when among status nacked then Nack
    else when among status ended_outside then Outside
    else when among status arbitration_lost then ArbitrationLost
    else when among status faults then Fault
    else NoneYet

-- the number that the library's log shows
abbrev pub reason_number : Reason → ℕ
reason_number NoneYet = 0
reason_number CountReached = 1
reason_number Nack = 2
reason_number Outside = 3
reason_number ArbitrationLost = 4
reason_number Fault = 5
reason_number Reset = 6
