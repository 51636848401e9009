-- "The seven-bit address and the address byte are kept apart as two kinds of number: byte = 2 x address + R, with R 1 for a read."
-- (document 01, The controller record)
use Rattle.std.specs.Prelude.{ℕ, ◌+◌, ◌*◌, ◌/◌, ◌%◌, eqb}
use Rattle.address.specs.declared.number.Address.{Address}
use Rattle.address.specs.declared.number.AddressByte.{AddressByte}
use Rattle.address.specs.declared.number.Direction.TheVariants.{Write, Read}
use Rattle.address.specs.declared.number.Direction.{Direction}
use Rattle.notation.specs.Choice.{when◌then◌else◌}

-- R, the lowest bit
unfoldable pub bit_of : Direction → ℕ
bit_of Write = 0
bit_of Read = 1

-- 2 x address + R. An address has seven bits: of a larger number the low seven count.
unfoldable pub byte_of : Address → Direction → AddressByte
byte_of address direction = record { 0 = 2 * (address.0 % 128) + bit_of direction }

-- the byte's upper seven bits
unfoldable pub address_of : AddressByte → Address
address_of byte = record { 0 = byte.0 / 2 }

-- R 1 is a read
unfoldable pub direction_of : AddressByte → Direction
direction_of byte = when eqb (byte.0 % 2) 1 then Read else Write
