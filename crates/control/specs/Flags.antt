-- I2CCON as flags (document 01, Registers): "AA 7, ENSIO 6, STA 5, STO 4, SI 3, MODE 0; written bits 3, 2, 1 are ignored, and bits 2
-- and 1 read 0". SI is no flag of its own: it is 1 exactly in Host.
use Rattle.std.specs.Prelude.{Bool, ℕ, ◌+◌, ◌/◌, ◌%◌, eqb}
use Rattle.control.specs.declared.flags.Control.{Control}
use Rattle.notation.specs.Choice.{when◌then◌else◌}

-- the flags in a written byte
unfoldable pub flags_of : ℕ → Control
flags_of value = record {
  aa = eqb (value / 128) 1;
  ensio = eqb (value / 64 % 2) 1;
  sta = eqb (value / 32 % 2) 1;
  sto = eqb (value / 16 % 2) 1;
  mode = eqb (value % 2) 1;
}

-- a bit's weight in the byte, where it is set
unfoldable pub weighs : Bool → ℕ → ℕ
weighs bit weight = when bit then weight else 0

-- the byte that I2CCON reads
unfoldable pub reads_as : Control → Bool → ℕ
reads_as k si =
    weighs k.aa 128 + weighs k.ensio 64 + weighs k.sta 32 + weighs k.sto 16 + weighs si 8 + weighs k.mode 1
