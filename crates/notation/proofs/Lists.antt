-- Lists, one at a time from a place on. Assumes nothing.
use mathlib.Core.List.{List, [], ◌∷◌}
use mathlib.Core.Path.{◌≡◌, refl, sym, ap, ◌∙◌}
use Prim.Native.Nat.{ℕ, zero, suc, ◌+◌, ◌≤◌, ◌<◌}
use native.Mathlib.Nat.{le_of_suc-le-suc, not-suc-le-zero}
use native.Mathlib.Numerals.{add-one}
use native.Mathlib.Omega.{arith}
use lib.ListN.{length, take, drop, get_or}
use lib.Seq.{drop-cons, drop-nil, get_or-take, length-take-le}

-- the first of what is left, and the rest
pub drop-one : (xs : List ℕ) (i : ℕ) → i < length xs → drop i xs ≡ get_or xs i 0 ∷ drop (i + 1) xs
drop-one xs i h = drop-cons xs i 0 h ∙ ap (λ (k : ℕ). get_or xs i 0 ∷ drop k xs) (sym (add-one i))

-- the same of the first n
pub take-one : (n : ℕ) (xs : List ℕ) (i : ℕ) → i < n → n ≤ length xs → drop i (take n xs) ≡ get_or xs i 0 ∷ drop (i + 1) (take n xs)
take-one n xs i h l =
    let e = length-take-le n xs l in
    drop-one (take n xs) i (omega arith) ∙ ap (λ (x : ℕ). x ∷ drop (i + 1) (take n xs)) (get_or-take n xs i 0 h)

pub take_done_lem : (n : ℕ) (xs : List ℕ) (i : ℕ) → n ≤ i → drop i (take n xs) ≡ []
take_done_lem zero xs i h = drop-nil i
take_done_lem (suc n) xs zero h = absurd (not-suc-le-zero h)
take_done_lem (suc n) [] (suc i) h = refl
take_done_lem (suc n) (x ∷ xs) (suc i) h = take_done_lem n xs i (le_of_suc-le-suc h)
