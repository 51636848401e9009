-- The accesses in hand: how many there are, which one has a number, and what all those of a line have in common. Assumes nothing.
use mathlib.Core.Bool.{true}
use mathlib.Core.List.{List, [], ◌∷◌, ◌++◌, map}
use mathlib.Core.Logic.{inl, inr}
use mathlib.Core.Path.{◌≡◌, refl, ap, ◌∙◌}
use Prim.Native.Nat.{ℕ, zero, suc, ◌+◌, ◌≤◌, ◌<◌, min}
use native.Mathlib.Omega.{arith}
use borrow.Author.Tests.{ltb-true, ltb-false}
use lib.Dec.{eqb, ltb}
use lib.ListN.{length, get_or, take, length-append, length-map, length-take}
use types.Run.{OneOf}
use Rattle.notation.proofs.Cases.{split}
use Rattle.port.specs.InHand.{reads_from, accesses, nth}
use Rattle.service.specs.Act.{Act, writes, reads_data, reads_count, counts, Work, read_times}
use Rattle.service.specs.JobTable.{job_table}
use Rattle.service.specs.declared.job.Job.{Job}

-- What f says of each of these numbers is v, so of one of them.

abbrev pub Each : {A : Type 0} → (ℕ → A) → A → List ℕ → Type 0
Each f v [] = Unit {0}
Each f v (k ∷ ks) = (f k ≡ v) × Each f v ks

pub at_each : {A : Type 0} (f : ℕ → A) (v : A) (ks : List ℕ) (x : ℕ) → OneOf ks x → Each f v ks → f x ≡ v
at_each f v [] x h each = absurd h
at_each f v (k ∷ []) x h each = ap f h ∙ each.0
at_each f v (k ∷ j ∷ ks) x (inl h) each = ap f h ∙ each.0
at_each f v (k ∷ j ∷ ks) x (inr h) each = at_each f v (j ∷ ks) x h each.1

-- The access with a number, in a list that ends with `last`.

pub nth-before : (xs : List Act) (last none : Act) (k : ℕ) → k < length xs → nth (xs ++ (last ∷ [])) k ≡ get_or xs k none
unfolding nth
nth-before [] last none k h = absurd (omega arith)
nth-before (x ∷ []) last none zero h = refl
nth-before (x ∷ []) last none (suc k) h = absurd (omega arith)
nth-before (x ∷ y ∷ ys) last none zero h = refl
nth-before (x ∷ y ∷ ys) last none (suc k) h = nth-before (y ∷ ys) last none k (omega arith)

pub nth_last : (xs : List Act) (last : Act) (k : ℕ) → length xs ≤ k → nth (xs ++ (last ∷ [])) k ≡ last
unfolding nth
nth_last [] last k h = refl
nth_last (x ∷ []) last zero h = absurd (omega arith)
nth_last (x ∷ []) last (suc k) h = refl
nth_last (x ∷ y ∷ ys) last zero h = absurd (omega arith)
nth_last (x ∷ y ∷ ys) last (suc k) h = nth_last (y ∷ ys) last k (omega arith)

-- there are 68 places
pub times_is : (n : ℕ) → min n 68 ≡ read_times n
unfolding read_times
times_is n = split (λ (k : ℕ). min n 68 ≡ k) (ltb 68 n) 68 n (λ more. omega (arith, ltb-true)) (λ less. omega (arith, ltb-false))

-- The reads of I2CDAT.

pub length-reads : (n i : ℕ) → length (reads_from n i) ≡ n
unfolding reads_from
length-reads zero i = refl
length-reads (suc n) i = ap suc (length-reads n (i + 1))

pub read_at : (n i k : ℕ) (none : Act) → k < n → get_or (reads_from n i) k none ≡ reads_data (i + k)
unfolding reads_from
read_at zero i k none h = absurd (omega arith)
read_at (suc n) i zero none h = ap reads_data (omega arith)
read_at (suc n) i (suc k) none h = read_at n (i + 1) k none (omega arith) ∙ ap reads_data (omega arith)

-- data are written one by one
pub data_accesses : (count : ℕ) (xs : List ℕ) (ys : List Act) → accesses count (map (writes 1) xs ++ ys) ≡ map (writes 1) xs ++ accesses count ys
unfolding accesses
data_accesses count [] ys = refl
data_accesses count (x ∷ xs) ys = ap (λ (zs : List Act). writes 1 x ∷ zs) (data_accesses count xs ys)

pub data_total : (count n : ℕ) (payload : List ℕ) →
    length (accesses count (map (writes 1) (take n payload) ++ (writes 3 0x41 ∷ []))) ≡ min n (length payload) + 1
unfolding accesses
data_total count n payload = simp (data_accesses, length-append, length-map, length-take)

-- P holds of each of these acts
abbrev pub All : (Act → Type 0) → List Act → Type 0
All P [] = Unit {0}
All P (x ∷ xs) = P x × All P xs

pub nth-all : (P : Act → Type 0) (xs : List Act) (k : ℕ) → P (counts 0) → All P xs → P (nth xs k)
unfolding nth
nth-all P [] k none each = none
nth-all P (x ∷ []) k none each = each.0
nth-all P (x ∷ y ∷ ys) zero none each = each.0
nth-all P (x ∷ y ∷ ys) (suc k) none each = nth-all P (y ∷ ys) k none each.1

all-written : (P : Act → Type 0) (count : ℕ) (xs : List ℕ) (ys : List Act) → ((register value : ℕ) → P (writes register value)) →
    All P (accesses count ys) → All P (accesses count (map (writes 1) xs ++ ys))
unfolding accesses
all-written P count [] ys p each = each
all-written P count (x ∷ xs) ys p each = (p 1 x, all-written P count xs ys p each)

all_read : (P : Act → Type 0) (n i : ℕ) (ys : List Act) → ((at : ℕ) → P (reads_data at)) → All P ys → All P (reads_from n i ++ ys)
unfolding reads_from
all_read P zero i ys p each = each
all_read P (suc n) i ys p each = (p i, all_read P n (i + 1) ys p each)

abbrev OfLine : (Act → Type 0) → ℕ → Work → Type 0
OfLine P count work = All P (accesses count work.acts)

-- P holds of each access of a line, where it holds of writes, at 30h of the read of the count, and at 58h of the reads of data
pub line-all : (P : Act → Type 0) (job : Job) (payload : List ℕ) (status count : ℕ) → ((register value : ℕ) → P (writes register value)) →
    (eqb status 0x30 ≡ true → P reads_count) → (eqb status 0x58 ≡ true → (at : ℕ) → P (reads_data at)) →
    All P (accesses count (job_table job payload status count).acts)
unfolding job_table accesses
line-all P job payload status count written counted read =
    let Of = OfLine P count in
    split Of _ _ _ (λ _. (written _ _, (written _ _, tt)))
    (λ _. split Of _ _ _ (λ _. all-written P count (take job.n payload) (writes 3 0x41 ∷ []) written (written _ _, tt))
    (λ _. split Of _ _ _ (λ _. (written _ _, tt))
    (λ _. split Of _ _ _ (λ _. (written _ _, tt))
    (λ _. split Of _ _ _ (λ _. (written _ _, tt))
    (λ _. split Of _ _ _ (λ at30. (written _ _, (counted at30, (written _ _, (written _ _, tt)))))
    (λ _. split Of _ _ _ (λ at58. all_read P _ _ _ (read at58) (written _ _, tt))
    (λ _. split Of _ _ _ (λ _. (written _ _, tt))
    (λ _. split Of _ _ _ (λ _. tt) (λ _. tt)))))))))
