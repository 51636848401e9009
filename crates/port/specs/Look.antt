-- What the port makes of I2CCON and I2CSTA as a chip reads them.
use Rattle.std.specs.Prelude.{Bool, not, List, [], ◌∷◌, ℕ, ◌/◌, ◌%◌, eqb}
use Rattle.address.specs.declared.number.Direction.TheVariants.{Write, Read}
use Rattle.address.specs.declared.number.Direction.{Direction}
use Rattle.control.specs.Flags.{flags_of}
use Rattle.notation.specs.Choice.{◌and◌}

-- SI in the byte that I2CCON reads: bit 3
unfoldable pub interrupt_in : ℕ → Bool
interrupt_in value = eqb (value / 8 % 2) 1

-- before the first write: ENSIO 1, and STA, STO and SI 0
unfoldable pub idle_control : ℕ → Bool
idle_control value =
    (flags_of value).ensio and not (flags_of value).sta and not (flags_of value).sto and not (interrupt_in value)

-- nothing has happened to the chip since SI was seen: ENSIO 1 and SI 1. (After a reset I2CCON reads 00h.)
unfoldable pub still_control : ℕ → Bool
still_control value = (flags_of value).ensio and interrupt_in value

-- own STOP: ENSIO 1, SI 0 and STO 0, where it is due
unfoldable pub stopped_control : ℕ → Bool
stopped_control value = (flags_of value).ensio and not (interrupt_in value) and not (flags_of value).sto

-- The statuses that a job can meet, by its direction: document 01, Jobs, with 18h, 20h, 28h and 30h in a write alone, and 40h, 48h and 58h in a
-- read alone (50h in none: LB is 1). At F8h, and at any other that a chip may read, the port waits on: so no answer comes of it.
abbrev pub meets : Direction → List ℕ
meets Write = 0x08 ∷ 0x18 ∷ 0x20 ∷ 0x28 ∷ 0x30 ∷ 0x38 ∷ 0x00 ∷ 0x70 ∷ 0x78 ∷ []
meets Read = 0x08 ∷ 0x40 ∷ 0x48 ∷ 0x58 ∷ 0x38 ∷ 0x00 ∷ 0x70 ∷ 0x78 ∷ []
