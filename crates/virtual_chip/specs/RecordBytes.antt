-- A controller record in lent bytes: 88 of them. `include/perlovasta.h` lists them by place.
use Rattle.std.specs.Prelude.{Bool, false, List, [], ◌∷◌, ◌++◌, ℕ, eqb, ltb, length, take, drop, get_or}
use Rattle.control.specs.Flags.{weighs}
use Rattle.control.specs.Reason.{reason_number}
use Rattle.control.specs.Turn.{status_of}
use Rattle.control.specs.declared.flags.Control.{Control}
use Rattle.controller.specs.Reset.{fresh}
use Rattle.controller.specs.Setters.{made, with_pointer}
use Rattle.controller.specs.declared.record.Controller.{Controller}
use Rattle.controller.specs.declared.record.Registers.{Registers}
use Rattle.notation.specs.Choice.{when◌then◌else◌, ◌and◌}
use Rattle.virtual_chip.specs.Numbers.{turn_number, is_turn, turn_for, reason_for}

abbrev pub record_size : ℕ
record_size = 88

-- AA, ENSIO, STA, STO and MODE, a byte each
unfoldable pub flag_bytes : Control → List ℕ
flag_bytes k = weighs k.aa 1 ∷ weighs k.ensio 1 ∷ weighs k.sta 1 ∷ weighs k.sto 1 ∷ weighs k.mode 1 ∷ []

-- the registers at pointers 00h to 04h and 06h
unfoldable pub register_bytes : Registers → List ℕ
register_bytes r = r.count ∷ r.own ∷ r.low ∷ r.high ∷ r.timeout ∷ r.speed ∷ []

-- the first 20: two that mark a record (50h, 43h), then all but the buffer
unfoldable pub head_bytes : Controller → List ℕ
head_bytes c =
    0x50 ∷ 0x43 ∷ turn_number c.turn ∷ status_of c.turn ∷ reason_number c.reason ∷
    flag_bytes c.control ++ (weighs c.armed 1 ∷ c.hand ∷ c.moved ∷ c.pointer ∷ register_bytes c.registers)

-- then the 68 places
unfoldable pub bytes_of : Controller → List ℕ
bytes_of c = head_bytes c ++ c.buffer

-- each flag, and whether the software reset is armed, is 0 or 1
unfoldable pub flags_in : List ℕ → Bool
flags_in m =
    ltb (get_or m 5 0) 2 and ltb (get_or m 6 0) 2 and ltb (get_or m 7 0) 2 and ltb (get_or m 8 0) 2 and ltb (get_or m 9 0) 2 and ltb (get_or m 10 0) 2

-- the mark is there, and every number that names something names it
unfoldable pub record_in : List ℕ → Bool
record_in m = eqb (get_or m 0 0) 0x50 and eqb (get_or m 1 0) 0x43 and is_turn (get_or m 2 0) and ltb (get_or m 4 0) 7 and flags_in m

-- bytes that are a record, sound or not
unfoldable pub is_record : List ℕ → Bool
is_record m = when ltb (length m) record_size then false else record_in m

-- the record in bytes that are one
unfoldable pub decoded : List ℕ → Controller
decoded m =
    made (take 68 (drop 20 m)) (get_or m 11 0) (get_or m 12 0) (get_or m 13 0) (eqb (get_or m 10 0) 1)
    (record {
      count = get_or m 14 0;
      own = get_or m 15 0;
      low = get_or m 16 0;
      high = get_or m 17 0;
      timeout = get_or m 18 0;
      speed = get_or m 19 0;
    })
    (record { aa = eqb (get_or m 5 0) 1; ensio = eqb (get_or m 6 0) 1; sta = eqb (get_or m 7 0) 1; sto = eqb (get_or m 8 0) 1; mode = eqb (get_or m 9 0) 1 })
    (turn_for (get_or m 2 0) (get_or m 3 0)) (reason_for (get_or m 4 0))

-- what stands for bytes that are no record: one that is not sound, since its pointer is over 7
abbrev pub no_record : Controller
no_record = with_pointer fresh 8

-- the record in any bytes
unfoldable pub record_of : List ℕ → Controller
record_of m = when is_record m then decoded m else no_record

-- what storing a record writes: nothing where there is no room for it
unfoldable pub stored : ℕ → Controller → List ℕ
stored room c = when ltb room record_size then [] else bytes_of c
