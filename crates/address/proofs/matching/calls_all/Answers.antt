-- `calls_all` is `calls_all`: below a bit there is only 0, and only where the bit is 1.
use Prim.Native.Nat.{ℕ, zero, suc, ◌%◌, ◌<◌}
use mathlib.Core.Path.{◌≡◌, refl, sym, ◌∙◌}
use native.Mathlib.Omega.{arith}
use lib.Dec.{eqb, ltb}
use borrow.Author.Rules.{rules}
use borrow.Author.Tests.{le-ltb, ne_eqb}
use Rattle.address.specs.Matching.{calls_all}
use Rattle.notation.proofs.Cases.{cases}
use Rattle.notation.specs.Choice.{◌and◌}
use Rattle.address.proofs.matching.calls_all.Goals as goal

below-bit : (byte bit : ℕ) → bit < 2 → ltb byte bit ≡ (eqb bit 1 and eqb byte 0)
unfolding ◌and◌
below-bit byte zero h = search cases
below-bit zero (suc zero) h = refl
below-bit (suc byte) (suc zero) h = le-ltb (suc byte) 1 (omega arith) ∙ sym (ne_eqb (suc byte) 0 (λ e. omega (arith, e)))
below-bit byte (suc (suc bit)) h = absurd (omega (arith, h))

pub returns : goal.returns
unfolding calls_all
returns c = below-bit c.args.byte.0 (c.args.i2cadr % 2) (search rules)
