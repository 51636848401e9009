-- Address and address byte lead back to each other, AA 0 answers to no byte, the match tells the byte's address, and events 5 and 8 leave what it
-- looks at. Assumes nothing.
use mathlib.Core.Bool.{Bool, true, false}
use mathlib.Core.Path.{◌≡◌, refl, ap, subst}
use Prim.Native.Nat.{ℕ, zero, suc, ◌<◌, ◌+◌, ◌*◌, ◌/◌, ◌%◌}
use native.Mathlib.Omega.{arith}
use borrow.Author.Tests.{eq-eqb, ne_eqb, eqb-true}
use lib.Dec.{eqb, ltb}
use Rattle.address.specs.Matching.{own_address, calls_all, calls_own, call_of, match_of}
use Rattle.address.specs.Number.{bit_of, byte_of, address_of, direction_of}
use Rattle.address.specs.declared.matching.Match.TheVariants.{Own, General, Nothing}
use Rattle.address.specs.declared.matching.Match.{Match}
use Rattle.address.specs.declared.number.Address.{Address}
use Rattle.address.specs.declared.number.AddressByte.{AddressByte}
use Rattle.address.specs.declared.number.Direction.TheVariants.{Write, Read}
use Rattle.address.specs.declared.number.Direction.{Direction}
use Rattle.controller.specs.Condition.{match_on_bus, matches, addressed, address_byte, outbid, address_lost}
use Rattle.controller.specs.Event.{bad_argument, event_sound, event_of}
use Rattle.controller.specs.Record.{sound}
use Rattle.controller.specs.Reply.{Outcome, refuses, accepts, waits_for, interrupts_at}
use Rattle.controller.specs.declared.record.Controller.{Controller}
use Rattle.laws.specs.Addresses.{LeadBack, MatchTells, MatchStays}
use Rattle.notation.proofs.Cases.{when-true, when-false, and_right, split}
use Rattle.notation.specs.Choice.{when◌then◌else◌, ◌and◌, ◌or◌}

-- the address of an address byte is the address it was made of
address-back : (a : Address) (d : Direction) → a.0 < 128 → address_of (byte_of a d) ≡ a
unfolding byte_of bit_of address_of
address-back a Write h = ap {B = Address} (λ (n : ℕ). record { 0 = n }) (omega arith)
address-back a Read h = ap {B = Address} (λ (n : ℕ). record { 0 = n }) (omega arith)

-- and so is its direction
pub direction-back : (a : Address) (d : Direction) → direction_of (byte_of a d) ≡ d
unfolding byte_of bit_of direction_of
direction-back a Write =
    let bit = (2 * (a.0 % 128) + 0) % 2 in
    when-false (eqb bit 1) Read Write (ne_eqb bit 1 (omega arith))
direction-back a Read =
    let bit = (2 * (a.0 % 128) + 1) % 2 in
    when-true (eqb bit 1) Read Write (eq-eqb bit 1 (omega arith))

-- R is the bit of the direction
bit-back : (r : ℕ) → r < 2 → bit_of (when eqb r 1 then Read else Write) ≡ r
unfolding bit_of when◌then◌else◌
bit-back zero h = refl
bit-back (suc zero) h = refl
bit-back (suc (suc r)) h = absurd (omega (arith, h))

byte-back : (byte : AddressByte) → byte.0 < 256 → byte_of (address_of byte) (direction_of byte) ≡ byte
unfolding byte_of address_of direction_of
byte-back byte h =
    ap {B = AddressByte} (λ (n : ℕ). record { 0 = n }) (omega (arith, h, bit-back (byte.0 % 2) (omega arith)))

pub lead_back : LeadBack
lead_back = record { byte = byte-back; address = address-back; direction = direction-back }

-- with AA 0 nothing matches, General Call neither
pub silent-without-aa : (i2cadr : ℕ) (byte : AddressByte) → (match_of i2cadr false byte).call ≡ Nothing
unfolding call_of match_of when◌then◌else◌ ◌and◌
silent-without-aa i2cadr byte = refl

module _ (i2cadr : ℕ) (aa : Bool) (byte : AddressByte) where
  own-address : (aa and calls_own i2cadr byte) ≡ true → address_of byte ≡ own_address i2cadr
  unfolding calls_own address_of
  own-address t = ap {B = Address} (λ (n : ℕ). record { 0 = n }) (eqb-true _ _ (and_right (ltb 0 (i2cadr / 2)) _ (and_right aa _ t)))

  general-address : (aa and calls_all i2cadr byte) ≡ true → address_of byte ≡ record { 0 = 0 }
  unfolding calls_all address_of
  general-address t = ap {B = Address} (λ (n : ℕ). record { 0 = n / 2 }) (eqb-true _ _ (and_right (eqb (i2cadr % 2) 1) _ (and_right aa _ t)))

  -- what each call says of the byte
  Says : Match → Type 0
  Says General = address_of byte ≡ record { 0 = 0 }
  Says (Own d) = (address_of byte ≡ own_address i2cadr) × (direction_of byte ≡ d)
  Says Nothing = Unit {0}

  -- the call that the definition's two tests choose
  says : (all own : Bool) → (all ≡ true → Says General) → (own ≡ true → address_of byte ≡ own_address i2cadr) →
      Says (when all then General else when own then Own (direction_of byte) else Nothing)
  unfolding when◌then◌else◌ Says
  says true own f g = f refl
  says false true f g = (g refl, refl)
  says false false f g = tt

  told : {m : Match} → call_of i2cadr aa byte ≡ m → Says m
  unfolding call_of Says
  told e = subst Says e (says _ _ general-address own-address)

pub match_tells : MatchTells
unfolding match_of Says
match_tells i2cadr aa byte = record {
  address = refl;
  own = λ d e. (told i2cadr aa byte e).0;
  direction = λ d e. (told i2cadr aa byte e).1;
  general = told i2cadr aa byte;
}

module _ (c : Controller) (byte : ℕ) where
  -- the match after this outcome is that before it
  abbrev SameMatch : Outcome → Type 0
  SameMatch o = match_on_bus o.next byte ≡ match_on_bus c byte

  every_call : (f : Match → Outcome) → SameMatch (f General) → SameMatch (f (Own Write)) → SameMatch (f (Own Read)) → SameMatch (f Nothing) →
      (m : Match) → SameMatch (f m)
  every_call f g w r n General = g
  every_call f g w r n (Own Write) = w
  every_call f g w r n (Own Read) = r
  every_call f g w r n Nothing = n

  or-refused : (b : Bool) (o : Outcome) (number : ℕ) → SameMatch o → SameMatch (when b then o else refuses c number)
  unfolding refuses
  or-refused b o number h = split SameMatch b o (refuses c number) (λ e. h) (λ e. refl)

  event_5 : (argument : ℕ) → SameMatch (address_byte c argument)
  unfolding address_byte addressed waits_for interrupts_at accepts
  event_5 argument = or-refused _ _ 8 (every_call (addressed c) refl refl refl refl (matches c argument))

  event_8 : (argument : ℕ) → SameMatch (address_lost c argument)
  unfolding address_lost outbid interrupts_at accepts
  event_8 argument = or-refused _ _ 8 (every_call (outbid c) refl refl refl refl (matches c argument))

pub match_stays : MatchStays
unfolding event_of event_sound bad_argument when◌then◌else◌ ◌or◌
match_stays c argument byte = (
  or-refused c byte (sound c) _ 10 (event_5 c byte argument),
  or-refused c byte (sound c) _ 10 (event_8 c byte argument),
)
