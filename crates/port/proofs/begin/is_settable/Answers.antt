-- `is_settable` is `among` of the pointers listed: those below 5, and 6.
use mathlib.Core.Bool.{true, false}
use mathlib.Core.List.{[], ◌∷◌}
use mathlib.Core.Path.{◌≡◌, refl, sym}
use Prim.Native.Nat.{ℕ, zero, suc, ◌≤◌, ◌<◌}
use native.Mathlib.Omega.{arith}
use borrow.Author.Tests.{ne_eqb}
use Rattle.notation.proofs.Among.{keys_in}
use Rattle.notation.proofs.Cases.{cases}
use Rattle.notation.specs.Choice.{when◌then◌else◌, among}
use Rattle.port.specs.Begin.{settable}
use Rattle.port.proofs.begin.is_settable.Goals as goal

low : (k : ℕ) → k < 5 → among k settable ≡ true
unfolding among when◌then◌else◌
low zero h = refl
low (suc zero) h = refl
low (suc (suc zero)) h = refl
low (suc (suc (suc zero))) h = refl
low (suc (suc (suc (suc zero)))) h = refl
low (suc (suc (suc (suc (suc k))))) h = absurd (omega arith)

high : (k : ℕ) → 5 ≤ k → (k ≡ 6 → ⊥) → among k settable ≡ false
unfolding among
high k h other =
    search (
      ne_eqb k 0 (λ e. omega arith),
      ne_eqb k 1 (λ e. omega arith),
      ne_eqb k 2 (λ e. omega arith),
      ne_eqb k 3 (λ e. omega arith),
      ne_eqb k 4 (λ e. omega arith),
      ne_eqb k 6 other,
      cases,
    )

pub returns-in_default : goal.returns-in_default
returns-in_default c = sym (high c.args.pointer c.in_default.if-matches-own.false c.in_default.in_default-own.rest.1)

pub returns-in-0 : goal.returns-in-0
returns-in-0 c = sym (keys_in (6 ∷ []) c.args.pointer c.in-0.is true settable tt)

pub returns-in-0-2 : goal.returns-in-0-2
returns-in-0-2 c = sym (low c.args.pointer c.in-0.if-matches-own.true)
