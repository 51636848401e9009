-- `match_call` is `call_of`. Its key is R where the byte has the own address, and 2 or 3 where it has not.
use Prim.Native.Nat.{ℕ, zero, suc, ◌+◌, ◌*◌, ◌%◌, ◌<◌}
use mathlib.Core.Bool.{Bool, true, false, not}
use mathlib.Core.Path.{◌≡◌, refl, sym, ap, ◌∙◌}
use native.Mathlib.Omega.{arith}
use lib.Dec.{eqb}
use mir.Val.{bool_byte}
use borrow.Author.Rules.{rules}
use Rattle.address.specs.Matching.{calls_all, calls_own, call_of}
use Rattle.address.specs.Number.{direction_of}
use Rattle.address.specs.declared.matching.Match.TheVariants.{Own, Nothing}
use Rattle.address.specs.declared.matching.Match.{Match}
use Rattle.address.specs.declared.number.AddressByte.{AddressByte}
use Rattle.address.specs.declared.number.Direction.TheVariants.{Write, Read}
use Rattle.notation.proofs.Cases.{calls, cases}
use Rattle.notation.specs.Choice.{when◌then◌else◌}
use Rattle.address.proofs.matching.match_call.Goals as goal

-- what a key answers
keyed : ℕ → Match
keyed key = when eqb key 0 then Own Write else when eqb key 1 then Own Read else Nothing

-- that is what the definition says of a byte that is no General Call
own-keyed : (own : Bool) (r : ℕ) → r < 2 → keyed (r + 2 * bool_byte (not own)) ≡ (when own then Own (when eqb r 1 then Read else Write) else Nothing)
unfolding when◌then◌else◌ keyed
own-keyed true zero h = refl
own-keyed true (suc zero) h = refl
own-keyed false zero h = refl
own-keyed false (suc zero) h = refl
own-keyed own (suc (suc r)) h = absurd (omega (arith, h))

-- and so the whole definition, with AA 1
matched :
    (i2cadr : ℕ) (aa : Bool) (byte : AddressByte) (all own : Bool) → aa ≡ true → all ≡ calls_all i2cadr byte → all ≡ false →
    own ≡ calls_own i2cadr byte → keyed (byte.0 % 2 + 2 * bool_byte (not own)) ≡ call_of i2cadr aa byte
unfolding call_of direction_of
matched i2cadr aa byte all own on a no_call o = own-keyed own (byte.0 % 2) (search rules) ∙ rw (o) (search (sym a ∙ no_call, cases))

-- the default arm
keyed-none : (key : ℕ) → (key ≡ 0 → ⊥) → (key ≡ 1 → ⊥) → keyed key ≡ Nothing
unfolding keyed
keyed-none key p q = search cases

-- the sum is a byte
key_fits : (own : Bool) → 2 * bool_byte (not own) < 3
key_fits true = omega arith
key_fits false = omega arith

pub returns-then-calls_all : goal.returns-then-calls_all
unfolding call_of
returns-then-calls_all c = search calls

pub overflow_mul-key : goal.overflow_mul-key
overflow_mul-key c = record { fits = omega (arith, key_fits c.calls_own.result) }

pub overflow_add-key : goal.overflow_add-key
overflow_add-key c = record { fits = omega (arith, key_fits c.calls_own.result) }

pub returns-in-0 : goal.returns-in-0
unfolding keyed when◌then◌else◌
returns-in-0 c = sym (ap keyed c.in-0.is) ∙ search matched

pub returns-in-1 : goal.returns-in-1
unfolding keyed when◌then◌else◌
returns-in-1 c = sym (ap keyed c.in-1.is) ∙ search matched

pub returns-in_default : goal.returns-in_default
returns-in_default c = sym (keyed-none _ c.in_default.in_default-own.rest.0.1 c.in_default.in_default-own.rest.1) ∙ search matched

pub returns : goal.returns
unfolding call_of
returns c = search cases
