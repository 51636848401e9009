-- What is claimed of address bytes and of the match's answer. The proofs are in proofs/Addresses.antt. In these definitions a byte is any number;
-- where it matters that it is below 256, the claim says so.
use Rattle.std.specs.Prelude.{Bool, ◌≡◌, ℕ, ◌<◌}
use Rattle.address.specs.Matching.{own_address, match_of}
use Rattle.address.specs.Number.{byte_of, address_of, direction_of}
use Rattle.address.specs.declared.matching.AddressMatch.{AddressMatch}
use Rattle.address.specs.declared.matching.Match.TheVariants.{Own, General}
use Rattle.address.specs.declared.number.Address.{Address}
use Rattle.address.specs.declared.number.AddressByte.{AddressByte}
use Rattle.address.specs.declared.number.Direction.{Direction}
use Rattle.controller.specs.Condition.{match_on_bus}
use Rattle.controller.specs.Event.{event_of}
use Rattle.controller.specs.declared.record.Controller.{Controller}

-- Address and address byte lead to each other, both ways.
pub record LeadBack : Type 0 where
  -- address and direction of a byte make that byte again
  pub byte : (b : AddressByte) → b.0 < 256 → byte_of (address_of b) (direction_of b) ≡ b
  -- a seven-bit address and a direction make a byte of which they are address and direction
  pub address : (a : Address) (d : Direction) → a.0 < 128 → address_of (byte_of a d) ≡ a
  pub direction : (a : Address) (d : Direction) → direction_of (byte_of a d) ≡ d

-- What an answer of the match says of the byte. "own address with direction, General Call, or none, each with the byte's seven-bit address"
-- (document 02, request 5). When each is answered, `call_of` says.
pub record Tells (i2cadr : ℕ) (byte : AddressByte) (answer : AddressMatch) : Type 0 where
  -- its address is the byte's upper seven bits, whatever was called
  pub address : answer.address ≡ address_of byte
  -- for the own address it is I2CADR's
  pub own : (d : Direction) → answer.call ≡ Own d → answer.address ≡ own_address i2cadr
  -- and the direction is the byte's
  pub direction : (d : Direction) → answer.call ≡ Own d → direction_of byte ≡ d
  -- for General Call it is 0
  pub general : answer.call ≡ General → answer.address ≡ record { 0 = 0 }

-- any I2CADR, AA and byte
abbrev pub MatchTells : Type 0
MatchTells = (i2cadr : ℕ) (aa : Bool) (byte : AddressByte) → Tells i2cadr byte (match_of i2cadr aa byte)

-- Events 5 and 8 leave AA and I2CADR, which are all that the match looks at: a ward log that asks after the event is told the same.
abbrev pub MatchStays : Type 0
MatchStays = (c : Controller) (argument byte : ℕ) →
    (match_on_bus (event_of c 5 argument).next byte ≡ match_on_bus c byte) × (match_on_bus (event_of c 8 argument).next byte ≡ match_on_bus c byte)
