-- The flags in the byte that I2CCON reads are the controller's, and SI. Assumes nothing.
use mathlib.Core.Bool.{Bool, true, false}
use mathlib.Core.Path.{◌≡◌}
use Prim.Native.Nat.{ℕ, ◌+◌, ◌*◌, ◌/◌, ◌%◌, ◌≤◌}
use native.Mathlib.Omega.{arith}
use borrow.Author.Tests.{eq-eqb, ne_eqb}
use lib.Dec.{eqb}
use Rattle.control.specs.Flags.{flags_of, weighs, reads_as}
use Rattle.control.specs.declared.flags.Control.{Control}
use Rattle.notation.specs.Choice.{when◌then◌else◌}
use Rattle.port.specs.Look.{interrupt_in}

abbrev bit : Bool → ℕ
bit true = 1
bit false = 0

bit-low : (b : Bool) → bit b ≤ 1
bit-low true = omega arith
bit-low false = omega arith

is_bit : (x : ℕ) (b : Bool) → x ≡ bit b → eqb x 1 ≡ b
is_bit x true e = eq-eqb x 1 e
is_bit x false e = ne_eqb x 1 (omega (arith, e))

weight : (b : Bool) (n : ℕ) → weighs b n ≡ n * bit b
unfolding weighs when◌then◌else◌
weight true n = omega arith
weight false n = omega arith

abbrev byte : Control → Bool → ℕ
byte k si = 128 * bit k.aa + 64 * bit k.ensio + 32 * bit k.sta + 16 * bit k.sto + 8 * bit si + 1 * bit k.mode

-- what the port looks for in the byte
pub record Shown (k : Control) (si : Bool) (value : ℕ) : Type 0 where
  pub ensio : (flags_of value).ensio ≡ k.ensio
  pub sta : (flags_of value).sta ≡ k.sta
  pub sto : (flags_of value).sto ≡ k.sto
  pub interrupt : interrupt_in value ≡ si

pub shown : (k : Control) (si : Bool) → Shown k si (reads_as k si)
unfolding flags_of reads_as interrupt_in
shown k si =
    let a = bit-low k.aa in
    let e = bit-low k.ensio in
    let s = bit-low k.sta in
    let t = bit-low k.sto in
    let i = bit-low si in
    let m = bit-low k.mode in
    record {
      ensio = simp weight (is_bit (byte k si / 64 % 2) k.ensio (omega arith));
      sta = simp weight (is_bit (byte k si / 32 % 2) k.sta (omega arith));
      sto = simp weight (is_bit (byte k si / 16 % 2) k.sto (omega arith));
      interrupt = simp weight (is_bit (byte k si / 8 % 2) si (omega arith));
    }
