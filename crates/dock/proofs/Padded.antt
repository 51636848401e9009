-- 68 places that begin with some bytes, zeros after them. Assumes nothing.
use mathlib.Core.List.{List, [], ◌∷◌, ◌++◌}
use mathlib.Core.Path.{◌≡◌, refl, ap, ◌∙◌}
use Prim.Native.Nat.{ℕ, zero, suc, ◌+◌, ◌<◌}
use native.Mathlib.Omega.{arith}
use lib.ListN.{length, drop, get_or, replicate, length-append, length-replicate}
use lib.Seq.{length-take-le, get_or-take}
use Rattle.notation.proofs.Lists.{drop-one}
use Rattle.port.specs.Port.{padded}

-- after the bytes, and after the zeros too, there are zeros
zeros_read : (n i : ℕ) → ◌≡◌ {A = ℕ} (get_or (replicate n 0) i 0) 0
zeros_read zero i = refl
zeros_read (suc n) zero = refl
zeros_read (suc n) (suc i) = zeros_read n i

then_zeros : (xs : List ℕ) (n i : ℕ) → get_or (xs ++ replicate n 0) i 0 ≡ get_or xs i 0
then_zeros [] n i = zeros_read n i
then_zeros (x ∷ xs) n zero = refl
then_zeros (x ∷ xs) n (suc i) = then_zeros xs n i

pub padded-length : (xs : List ℕ) → length (padded xs) ≡ 68
unfolding padded
padded-length xs =
    let l = length-append xs (replicate 68 0) in
    let z = length-replicate {A = ℕ} 68 0 in
    length-take-le 68 (xs ++ replicate 68 0) (omega (arith, l, z))

pub padded-read : (xs : List ℕ) (i : ℕ) → i < 68 → get_or (padded xs) i 0 ≡ get_or xs i 0
unfolding padded
padded-read xs i h = get_or-take 68 (xs ++ replicate 68 0) i 0 h ∙ then_zeros xs 68 i

-- the first of what is left, and the rest
pub padded-one : (xs : List ℕ) (i : ℕ) → i < 68 → drop i (padded xs) ≡ get_or xs i 0 ∷ drop (i + 1) (padded xs)
padded-one xs i h =
    let l = padded-length xs in
    drop-one (padded xs) i (omega (arith, l, h)) ∙ ap (λ (x : ℕ). x ∷ drop (i + 1) (padded xs)) (padded-read xs i h)
