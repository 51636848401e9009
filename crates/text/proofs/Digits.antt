-- A number's digits, as the code tells the cases apart. Assumes nothing.
use mathlib.Core.List.{[], ◌∷◌, ◌++◌}
use mathlib.Core.Path.{◌≡◌, ap, ◌∙◌}
use Prim.Native.Nat.{ℕ, suc, ◌-◌, ◌<◌, ◌≤◌, ◌/◌, ◌%◌}
use native.Mathlib.Omega.{arith}
use borrow.Author.Tests.{lt-ltb, le-ltb}
use Rattle.text.specs.Text.{digit, decimal_of}
use Rattle.notation.proofs.Cases.{when-true, when-false}

pub no_place : (places n : ℕ) → places ≡ 0 → decimal_of places n ≡ []
unfolding decimal_of
no_place places n e = ap (λ (p : ℕ). decimal_of p n) e

module _ (places n : ℕ) (some : places ≡ 0 → ⊥) where
  one_less : places ≡ suc (places - 1)
  one_less = omega arith

  pub last-digit : n < 10 → decimal_of places n ≡ digit n ∷ []
  unfolding decimal_of
  last-digit h = ap (λ (p : ℕ). decimal_of p n) one_less ∙ when-true _ _ _ (lt-ltb n 10 h)

  pub more_digits : 10 ≤ n → decimal_of places n ≡ decimal_of (places - 1) (n / 10) ++ (digit (n % 10) ∷ [])
  unfolding decimal_of
  more_digits h = ap (λ (p : ℕ). decimal_of p n) one_less ∙ when-false _ _ _ (le-ltb n 10 h)

pub ruleset digits = (no_place, last-digit, more_digits)
