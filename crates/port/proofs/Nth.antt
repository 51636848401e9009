-- Which access a number names, where they are bytes written and one more write, and how many accesses there are. Assumes nothing.
use mathlib.Core.List.{List, [], ◌∷◌, ◌++◌, map}
use mathlib.Core.Path.{◌≡◌, refl, ap, ◌∙◌}
use Prim.Native.Nat.{ℕ, zero, suc, ◌+◌, ◌%◌, ◌≤◌, ◌<◌, min}
use native.Mathlib.Nat.{le_of_suc-le-suc, not-suc-le-zero}
use native.Mathlib.Omega.{arith}
use lib.ListN.{length, get_or, take, length-append, length-take}
use Rattle.notation.proofs.Cases.{split}
use Rattle.port.proofs.Totals.{length-reads, times_is, data_total}
use Rattle.port.specs.InHand.{reads_from, accesses, alternates, recovers, nth}
use Rattle.service.specs.Act.{Act, Work, writes, read_times}
use Rattle.service.specs.JobTable.{job_table}
use Rattle.service.specs.declared.job.Job.{Job}

-- some accesses and one more: the first, and those after it
pub at_head : (x : Act) (xs : List Act) (w : Act) → nth (x ∷ (xs ++ (w ∷ []))) 0 ≡ x
unfolding nth
at_head x [] w = refl
at_head x (y ∷ ys) w = refl

pub in_tail : (x : Act) (xs : List Act) (w : Act) (k : ℕ) → nth (x ∷ (xs ++ (w ∷ []))) (suc k) ≡ nth (xs ++ (w ∷ [])) k
unfolding nth
in_tail x [] w k = refl
in_tail x (y ∷ ys) w k = refl

-- bytes written to I2CDAT
pub at_byte : (xs : List ℕ) (w : Act) (k : ℕ) → k < length xs → nth (map (writes 1) xs ++ (w ∷ [])) k ≡ writes 1 (get_or xs k 0)
at_byte [] w k h = absurd (not-suc-le-zero h)
at_byte (x ∷ xs) w zero h = at_head (writes 1 x) (map (writes 1) xs) w
at_byte (x ∷ xs) w (suc k) h = in_tail (writes 1 x) (map (writes 1) xs) w k ∙ at_byte xs w k (le_of_suc-le-suc h)

-- bytes written to one register and the other in turn
pub at_setting : (register other : ℕ) (xs : List ℕ) (w : Act) (k : ℕ) → k < length xs →
    let there = nth (alternates register other xs ++ (w ∷ [])) k in
    (k % 2 ≡ 0 → there ≡ writes register (get_or xs k 0)) × ((k % 2 ≡ 0 → ⊥) → there ≡ writes other (get_or xs k 0))
unfolding alternates
at_setting register other [] w k h = absurd (not-suc-le-zero h)
at_setting register other (x ∷ xs) w zero h =
    (λ e. at_head (writes register x) (alternates other register xs) w, λ odd. absurd (odd refl))
at_setting register other (x ∷ xs) w (suc k) h =
    let here = in_tail (writes register x) (alternates other register xs) w k in
    let later = at_setting other register xs w k (le_of_suc-le-suc h) in
    (λ e. here ∙ later.1 (λ f. omega arith), λ odd. here ∙ later.0 (omega arith))

pub length_settings : (register other : ℕ) (xs : List ℕ) → length (alternates register other xs) ≡ length xs
unfolding alternates
length_settings register other [] = refl
length_settings register other (x ∷ xs) = ap suc (length_settings other register xs)

-- How many accesses there are.

-- of a recovery
pub recovers-total : (n : ℕ) (xs : List ℕ) → length (recovers (take n xs)) ≡ min n (length xs) + 4
unfolding recovers
recovers-total n xs =
    let settings = take n xs in
    omega (arith, length-append (alternates 0 2 settings) (writes 3 0x40 ∷ []), length_settings 0 2 settings, length-take n xs)

abbrev Fits : ℕ → Work → Type 0
Fits count work = length (accesses count work.acts) ≤ 69

-- a line has at most 69 accesses
pub line-fits : (job : Job) (payload : List ℕ) (status count : ℕ) → length payload ≤ 68 →
    length (accesses count (job_table job payload status count).acts) ≤ 69
unfolding job_table accesses
line-fits job payload status count h =
    let Of = Fits count in
    split Of _ _ _ (λ _. omega arith)
    (λ _. split Of _ _ _ (λ _. omega (arith, data_total count job.n payload))
    (λ _. split Of _ _ _ (λ _. omega arith)
    (λ _. split Of _ _ _ (λ _. omega arith)
    (λ _. split Of _ _ _ (λ _. omega arith)
    (λ _. split Of _ _ _ (λ _. omega arith)
    (λ _. split Of _ _ _
    (λ _. omega (arith, length-append (reads_from (read_times job.n) 0) (writes 3 0x50 ∷ []), length-reads (read_times job.n) 0, times_is job.n))
    (λ _. split Of _ _ _ (λ _. omega arith)
    (λ _. split Of _ _ _ (λ _. omega arith) (λ _. omega arith)))))))))
