-- Which address byte the controller answers to (document 01, Events, 5 and 8). I2CADR has the own address in bits 7..1 and GC in bit 0.
use Rattle.std.specs.Prelude.{Bool, ℕ, ◌%◌, eqb, ltb}
use Rattle.address.specs.Number.{address_of, direction_of}
use Rattle.address.specs.declared.matching.AddressMatch.{AddressMatch}
use Rattle.address.specs.declared.matching.Match.TheVariants.{Own, General, Nothing}
use Rattle.address.specs.declared.matching.Match.{Match}
use Rattle.address.specs.declared.number.Address.{Address}
use Rattle.address.specs.declared.number.AddressByte.{AddressByte}
use Rattle.notation.specs.Choice.{when◌then◌else◌, ◌and◌}

-- "Byte 00h with .. GC"
unfoldable pub calls_all : ℕ → AddressByte → Bool
calls_all i2cadr byte = eqb (i2cadr % 2) 1 and eqb byte.0 0x00

-- "I2CADR (address in 7..1, GC bit 0)": its address lies where an address byte has one
abbrev pub own_address : ℕ → Address
own_address i2cadr = address_of (record { 0 = i2cadr })

-- "I2CADR's address not zero and equal to the byte's upper seven bits"
unfoldable pub calls_own : ℕ → AddressByte → Bool
calls_own i2cadr byte = ltb 0 (own_address i2cadr).0 and eqb (address_of byte).0 (own_address i2cadr).0

-- what the byte calls: General Call, else the own address with its direction, else nothing; nothing at all with AA 0
unfoldable pub call_of : ℕ → Bool → AddressByte → Match
call_of i2cadr aa byte =
    when aa and calls_all i2cadr byte then General
    else when aa and calls_own i2cadr byte then Own (direction_of byte)
    else Nothing

-- "Let it answer own address with direction, General Call, or none, each with the byte's seven-bit address." (document 02, request 5)
unfoldable pub match_of : ℕ → Bool → AddressByte → AddressMatch
match_of i2cadr aa byte = record { call = call_of i2cadr aa byte; address = address_of byte }
