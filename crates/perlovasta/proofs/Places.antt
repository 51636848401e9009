-- Bytes laid after bytes: what two calls put is what one would have put. Assumes nothing.
use mathlib.Core.List.{List, [], ◌∷◌, ◌++◌}
use mathlib.Core.Path.{◌≡◌, refl, sym, ap, ◌∙◌}
use Prim.Native.Nat.{ℕ, zero, suc, ◌+◌, ◌≤◌, ◌<◌}
use native.Mathlib.Nat.{le_of_suc-le-suc, not-suc-le-zero}
use native.Mathlib.Omega.{arith}
use borrow.Rule.Slice.PartMut.{put_mid}
use lib.ListN.{length, set, drop, length-drop}
use Rattle.notation.proofs.Laid.{laid-whole}
use Rattle.notation.proofs.Overlay.{past_end}
use Rattle.notation.specs.Overlay.{laid, laid_at}

after : (k : ℕ) (xs ys lent : List ℕ) → laid_at (k + length xs) ys (laid_at k xs lent) ≡ laid_at k (xs ++ ys) lent
unfolding laid_at laid
after k xs ys [] =
    ap (λ (l : List ℕ). laid_at (k + length xs) ys l) (past_end k xs [] (omega arith))
    ∙ past_end (k + length xs) ys [] (omega arith)
    ∙ sym (past_end k (xs ++ ys) [] (omega arith))
after zero [] ys (z ∷ lent) = refl
after zero (x ∷ xs) ys (z ∷ lent) =
    let e : 0 + suc (length xs) ≡ suc (0 + length xs) = omega arith in
    ap (λ (i : ℕ). laid_at i ys (x ∷ laid xs lent)) e ∙ ap (λ (l : List ℕ). x ∷ l) (after zero xs ys lent)
after (suc k) xs ys (z ∷ lent) =
    let e : suc k + length xs ≡ suc (k + length xs) = omega arith in
    ap (λ (i : ℕ). laid_at i ys (z ∷ laid_at k xs lent)) e ∙ ap (λ (l : List ℕ). z ∷ l) (after k xs ys lent)

-- eight bytes put, and others laid after them
pub after_eight : (at : ℕ) (xs ys lent next : List ℕ) → length xs ≡ 8 → next ≡ laid_at at xs lent → laid_at (at + 8) ys next ≡ laid_at at (xs ++ ys) lent
after_eight at xs ys lent next n e =
    ap (λ (l : List ℕ). laid_at (at + 8) ys l) e
    ∙ ap (λ (k : ℕ). laid_at (at + k) ys (laid_at at xs lent)) (sym n)
    ∙ after at xs ys lent

-- eight bytes that were copied into their place are laid there
pub copied_eight : (at k : ℕ) (xs lent : List ℕ) → k ≡ 8 → length xs ≡ 8 → at + 8 ≤ length lent → put_mid at k lent xs ≡ laid_at at xs lent
unfolding laid_at
copied_eight at k xs lent e n room =
    let rest = length-drop at lent in
    rw (e, laid-whole xs (drop at lent) (omega (arith, rest, n, room)), n) refl

-- four bytes put at the start, and others laid after them
pub after_four : (a b d e : ℕ) (xs lent : List ℕ) → 3 < length lent →
    laid_at 4 xs (set (set (set (set lent 0 a) 1 b) 2 d) 3 e) ≡ laid (a ∷ b ∷ d ∷ e ∷ xs) lent
unfolding laid_at laid
after_four a b d e xs [] h = absurd (not-suc-le-zero h)
after_four a b d e xs (x ∷ []) h = absurd (not-suc-le-zero (le_of_suc-le-suc h))
after_four a b d e xs (x ∷ y ∷ []) h = absurd (not-suc-le-zero (le_of_suc-le-suc (le_of_suc-le-suc h)))
after_four a b d e xs (x ∷ y ∷ z ∷ []) h = absurd (not-suc-le-zero (le_of_suc-le-suc (le_of_suc-le-suc (le_of_suc-le-suc h))))
after_four a b d e xs (x ∷ y ∷ z ∷ w ∷ lent) h = refl
