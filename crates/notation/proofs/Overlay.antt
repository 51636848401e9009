-- Bytes laid over a lent buffer from place k on. Assumes nothing.
use mathlib.Core.List.{List, [], ◌∷◌, append-nil}
use mathlib.Core.Path.{◌≡◌, refl, ap, ◌∙◌}
use Prim.Native.Nat.{ℕ, zero, suc, ◌+◌, ◌≤◌, ◌<◌}
use native.Mathlib.Nat.{le_of_suc-le-suc, not-suc-le-zero}
use native.Mathlib.Numerals.{add-one}
use lib.ListN.{length, set, take-append-drop, drop_of_length-le}
use lib.Seq.{take_all}
use Rattle.notation.specs.Overlay.{laid, laid_at}

pub at_start : (xs lent : List ℕ) → laid_at 0 xs lent ≡ laid xs lent
unfolding laid_at
at_start xs lent = refl

pub none : (k : ℕ) (lent : List ℕ) → laid_at k [] lent ≡ lent
unfolding laid_at laid
none k lent = take-append-drop k lent

laid-nowhere : (xs : List ℕ) → laid xs [] ≡ []
unfolding laid
laid-nowhere [] = refl
laid-nowhere (x ∷ xs) = refl

-- the buffer is full: what is left has no place
pub past_end : (k : ℕ) (xs lent : List ℕ) → length lent ≤ k → laid_at k xs lent ≡ lent
unfolding laid_at
past_end k xs lent h = rw (take_all k lent h, drop_of_length-le lent h, laid-nowhere xs) (append-nil lent)

step : (k x : ℕ) (xs lent : List ℕ) → k < length lent → laid_at (suc k) xs (set lent k x) ≡ laid_at k (x ∷ xs) lent
unfolding laid_at laid
step k x xs [] h = absurd (not-suc-le-zero h)
step zero x xs (y ∷ lent) h = refl
step (suc k) x xs (y ∷ lent) h = ap (λ (l : List ℕ). y ∷ l) (step k x xs lent (le_of_suc-le-suc h))

-- a byte is stored at its place, and the others follow it
pub one_more : (k x : ℕ) (xs lent : List ℕ) → k < length lent → laid_at (k + 1) xs (set lent k x) ≡ laid_at k (x ∷ xs) lent
one_more k x xs lent h = ap (λ (i : ℕ). laid_at i xs (set lent k x)) (add-one k) ∙ step k x xs lent h
