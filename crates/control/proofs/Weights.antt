-- A bit times its weight is the weight where the bit is set. Assumes nothing.
use mathlib.Core.Bool.{Bool, true, false}
use mathlib.Core.Path.{◌≡◌}
use mir.Val.{bool_byte}
use native.Mathlib.Omega.{arith}
use Prim.Native.Nat.{ℕ, ◌*◌}
use Rattle.control.specs.Flags.{weighs}
use Rattle.notation.specs.Choice.{when◌then◌else◌}

pub weighed : (bit : Bool) (weight : ℕ) (n : ℕ) → n ≡ bool_byte bit → weight * n ≡ weighs bit weight
unfolding weighs when◌then◌else◌
weighed true weight n e = rw e (omega arith)
weighed false weight n e = rw e (omega arith)

pub weighed_one : (bit : Bool) (n : ℕ) → n ≡ bool_byte bit → n ≡ weighs bit 1
unfolding weighs when◌then◌else◌
weighed_one true n e = e
weighed_one false n e = e
