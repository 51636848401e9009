-- Bytes laid over lent memory, part by part. Assumes nothing.
use mathlib.Core.List.{List, [], ◌∷◌, ◌++◌}
use mathlib.Core.Path.{◌≡◌, refl, sym, ap, ◌∙◌}
use Prim.Native.Nat.{ℕ, zero, suc, ◌+◌, ◌≤◌, ◌<◌}
use native.Mathlib.Omega.{arith}
use lib.ListN.{length, take, drop, set, get_or, length-drop}
use lib.Seq.{sets, sets-eq, set_out, length-take-le}
use Rattle.notation.specs.Overlay.{laid, laid_at}

nowhere : (k : ℕ) (xs : List ℕ) → laid_at k xs [] ≡ []
unfolding laid_at laid
nowhere zero [] = refl
nowhere zero (x ∷ xs) = refl
nowhere (suc k) [] = refl
nowhere (suc k) (x ∷ xs) = refl

-- one part, and then the next
pub laid-append : (xs ys m : List ℕ) → laid (xs ++ ys) m ≡ laid xs (laid_at (length xs) ys m)
unfolding laid_at laid
laid-append [] ys m = refl
laid-append (x ∷ xs) ys [] = sym (ap (laid (x ∷ xs)) (nowhere (suc (length xs)) ys))
laid-append (x ∷ xs) ys (y ∷ m) = ap (λ (l : List ℕ). x ∷ l) (laid-append xs ys m)

pub laid_at-append : (k n : ℕ) (xs ys m : List ℕ) → n ≡ k + length xs → laid_at k (xs ++ ys) m ≡ laid_at k xs (laid_at n ys m)
unfolding laid_at
laid_at-append zero n xs ys m e =
    let same : length xs ≡ n = omega (arith, e) in
    laid-append xs ys m ∙ ap (λ (j : ℕ). laid xs (laid_at j ys m)) same
laid_at-append (suc k) zero xs ys m e = absurd (omega (arith, e))
laid_at-append (suc k) (suc n) xs ys [] e = nowhere (suc k) (xs ++ ys) ∙ sym (ap (laid_at (suc k) xs) (nowhere (suc n) ys) ∙ nowhere (suc k) xs)
laid_at-append (suc k) (suc n) xs ys (y ∷ m) e = ap (λ (l : List ℕ). y ∷ l) (laid_at-append k n xs ys m (omega (arith, e)))

-- what stands there already
pub laid_same : (k j : ℕ) (m : List ℕ) → laid_at k (take j (drop k m)) m ≡ m
unfolding laid_at laid
laid_same zero zero m = refl
laid_same zero (suc j) [] = refl
laid_same zero (suc j) (y ∷ m) = ap (λ (l : List ℕ). y ∷ l) (laid_same zero j m)
laid_same (suc k) j [] = nowhere (suc k) (take j [])
laid_same (suc k) j (y ∷ m) = ap (λ (l : List ℕ). y ∷ l) (laid_same k j m)

pub laid-length : (xs m : List ℕ) → length (laid xs m) ≡ length m
unfolding laid
laid-length [] m = refl
laid-length (x ∷ xs) [] = refl
laid-length (x ∷ xs) (y ∷ m) = ap suc (laid-length xs m)

pub laid_at-length : (k : ℕ) (xs m : List ℕ) → length (laid_at k xs m) ≡ length m
unfolding laid_at
laid_at-length zero xs m = laid-length xs m
laid_at-length (suc k) xs [] = ap length (nowhere (suc k) xs)
laid_at-length (suc k) xs (y ∷ m) = ap suc (laid_at-length k xs m)

-- the bytes laid are found there, and those before them as they were
pub read-laid : (k : ℕ) (xs m : List ℕ) → k + length xs ≤ length m → take (length xs) (drop k (laid_at k xs m)) ≡ xs
unfolding laid_at laid
read-laid zero [] m h = refl
read-laid zero (x ∷ xs) [] h = absurd (omega (arith, h))
read-laid zero (x ∷ xs) (y ∷ m) h = ap (λ (l : List ℕ). x ∷ l) (read-laid zero xs m (omega (arith, h)))
read-laid (suc k) xs [] h = absurd (omega (arith, h))
read-laid (suc k) xs (y ∷ m) h = read-laid k xs m (omega (arith, h))

pub before-laid : (k j n : ℕ) (xs m : List ℕ) → n ≡ k + j → take j (drop k (laid_at n xs m)) ≡ take j (drop k m)
unfolding laid_at laid
before-laid zero zero n xs m e = refl
before-laid zero (suc j) zero xs m e = absurd (omega (arith, e))
before-laid zero (suc j) (suc n) xs [] e = ap (take (suc j)) (nowhere (suc n) xs)
before-laid zero (suc j) (suc n) xs (y ∷ m) e = ap (λ (l : List ℕ). y ∷ l) (before-laid zero j n xs m (omega (arith, e)))
before-laid (suc k) j zero xs m e = absurd (omega (arith, e))
before-laid (suc k) j (suc n) xs [] e = ap (λ (l : List ℕ). take j (drop (suc k) l)) (nowhere (suc n) xs)
before-laid (suc k) j (suc n) xs (y ∷ m) e = before-laid k j n xs m (omega (arith, e))

pub get_d_before : (k i : ℕ) (xs m : List ℕ) → i < k → get_or (laid_at k xs m) i 0 ≡ get_or m i 0
unfolding laid_at
get_d_before zero i xs m h = absurd (omega (arith, h))
get_d_before (suc k) i xs [] h = ap (λ (l : List ℕ). get_or l i 0) (nowhere (suc k) xs)
get_d_before (suc k) zero xs (y ∷ m) h = refl
get_d_before (suc k) (suc i) xs (y ∷ m) h = get_d_before k i xs m (omega (arith, h))

-- those after the bytes laid are as they were
pub after-laid : (k : ℕ) (xs m : List ℕ) → length xs ≤ k → drop k (laid xs m) ≡ drop k m
unfolding laid
after-laid k [] m h = refl
after-laid zero (x ∷ xs) m h = absurd (omega (arith, h))
after-laid (suc k) (x ∷ xs) [] h = refl
after-laid (suc k) (x ∷ xs) (y ∷ m) h = after-laid k xs m (omega (arith, h))

-- what was stored there before does not matter
pub laid-over : (xs m : List ℕ) (i x : ℕ) → i < length xs → laid xs (set m i x) ≡ laid xs m
unfolding laid
laid-over [] m i x h = absurd (omega (arith, h))
laid-over (z ∷ xs) [] i x h = refl
laid-over (z ∷ xs) (y ∷ m) zero x h = refl
laid-over (z ∷ xs) (y ∷ m) (suc i) x h = ap (λ (l : List ℕ). z ∷ l) (laid-over xs m i x (omega (arith, h)))

-- one byte stored in a part
pub set_in : (k j i n x : ℕ) (m : List ℕ) → n ≡ k + i → i < j → k + j ≤ length m → set m n x ≡ laid_at k (set (take j (drop k m)) i x) m
unfolding laid_at laid
set_in zero zero i n x m e h l = absurd (omega (arith, h))
set_in zero (suc j) i n x [] e h l = absurd (omega (arith, l))
set_in zero (suc j) zero zero x (y ∷ m) e h l = ap (λ (r : List ℕ). x ∷ r) (sym (laid_same zero j m))
set_in zero (suc j) zero (suc n) x (y ∷ m) e h l = absurd (omega (arith, e))
set_in zero (suc j) (suc i) zero x (y ∷ m) e h l = absurd (omega (arith, e))
set_in zero (suc j) (suc i) (suc n) x (y ∷ m) e h l =
    ap (λ (r : List ℕ). y ∷ r) (set_in zero j i n x m (omega (arith, e)) (omega (arith, h)) (omega (arith, l)))
set_in (suc k) j i n x [] e h l = absurd (omega (arith, l))
set_in (suc k) j i zero x (y ∷ m) e h l = absurd (omega (arith, e))
set_in (suc k) j i (suc n) x (y ∷ m) e h l = ap (λ (r : List ℕ). y ∷ r) (set_in k j i n x m (omega (arith, e)) h (omega (arith, l)))

-- bytes that fit are laid whole: the lent buffer begins with them, and its rest stays
pub laid-whole : (xs m : List ℕ) → length xs ≤ length m → laid xs m ≡ xs ++ drop (length xs) m
unfolding laid
laid-whole [] m h = refl
laid-whole (x ∷ xs) [] h = absurd (omega (arith, h))
laid-whole (x ∷ xs) (y ∷ m) h = ap (λ (l : List ℕ). x ∷ l) (laid-whole xs m (omega (arith, h)))

-- as many bytes as there are places
pub laid-all : (xs m : List ℕ) → length xs ≡ length m → laid xs m ≡ xs
unfolding laid
laid-all [] [] e = refl
laid-all [] (y ∷ m) e = absurd (omega (arith, e))
laid-all (x ∷ xs) [] e = absurd (omega (arith, e))
laid-all (x ∷ xs) (y ∷ m) e = ap (λ (l : List ℕ). x ∷ l) (laid-all xs m (omega (arith, e)))

-- bytes stored one after the other from the start
pub laid_sets : (xs m : List ℕ) → length xs ≤ length m → laid xs m ≡ sets m 0 xs
laid_sets xs m h =
    let none : 0 + length xs ≡ length xs = omega arith in
    laid-whole xs m h ∙ ap (λ (k : ℕ). xs ++ drop k m) (sym none) ∙ sym (sets-eq xs m 0 (omega (arith, h)))

-- 68 places from one on
pub part_length : (k : ℕ) (m : List ℕ) → k + 68 ≤ length m → length (take 68 (drop k m)) ≡ 68
part_length k m h = let d = length-drop k m in length-take-le 68 (drop k m) (omega (arith, d, h))

-- none stored in a part: it has no such place
pub set-none : (k i x : ℕ) (m : List ℕ) → k + 68 ≤ length m → 68 ≤ i → laid_at k (set (take 68 (drop k m)) i x) m ≡ m
set-none k i x m h past =
    let l = part_length k m h in
    ap (λ (xs : List ℕ). laid_at k xs m) (set_out (take 68 (drop k m)) i x (omega (arith, l, past))) ∙ laid_same k 68 m
