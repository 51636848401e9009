-- How many accesses are in hand: of a line 69 at most, whatever count is noted; of a recovery 72 at most. Assumes nothing.
use mathlib.Core.Bool.{Bool}
use mathlib.Core.List.{List, [], ◌∷◌, ◌++◌, map}
use mathlib.Core.Path.{◌≡◌, refl, sym, ap, subst, ◌∙◌}
use Prim.Native.Nat.{ℕ, zero, suc, ◌+◌, ◌≤◌}
use native.Mathlib.Omega.{arith}
use borrow.Author.Tests.{ltb-false, leb-true}
use lib.Dec.{T, ltb, leb}
use lib.ListN.{length, take, length-append, length-take, length-map}
use Rattle.answer.specs.declared.ending.Ending.TheVariants.{Done}
use Rattle.notation.proofs.Among.{is_true}
use Rattle.notation.proofs.Cases.{split}
use Rattle.notation.specs.Choice.{when◌then◌else◌}
use Rattle.port.specs.InHand.{reads_from, accesses, alternates, recovers}
use Rattle.service.specs.Act.{Act, writes, reads_all, counts, Work, read_times}
use Rattle.service.specs.JobSteps.{go_on_after, stop_after}
use Rattle.service.specs.JobTable.{job_table}
use Rattle.service.specs.declared.job.Job.{Job}

-- the same accesses whatever count was noted before, and 69 at most
pub record Settled (w : Work) : Type 0 where
  pub same : (count other : ℕ) → accesses count w.acts ≡ accesses other w.acts
  pub few : (count : ℕ) → length (accesses count w.acts) ≤ 69

read_times_lem : (count : ℕ) → read_times count ≤ 68
unfolding read_times
read_times_lem count = split (λ (k : ℕ). k ≤ 68) (ltb 68 count) 68 count (λ _. omega arith) (ltb-false 68 count)

pub length-reads : (more i : ℕ) → length (reads_from more i) ≡ more
unfolding reads_from
length-reads zero i = refl
length-reads (suc more) i = ap suc (length-reads more (i + 1))

-- the data of a write
data_writes : (count : ℕ) (xs : List ℕ) → accesses count (map (writes 1) xs ++ (writes 3 0x41 ∷ [])) ≡ map (writes 1) xs ++ (writes 3 0x41 ∷ [])
unfolding accesses
data_writes count [] = refl
data_writes count (x ∷ xs) = ap {B = List Act} (λ later. writes 1 x ∷ later) (data_writes count xs)

-- a line whose accesses are these
has_just : (w : Work) (xs : List Act) → ((count : ℕ) → accesses count w.acts ≡ xs) → length xs ≤ 69 → Settled w
has_just w xs e h = record { same = λ count other. e count ∙ sym (e other); few = λ count. subst (λ (ys : List Act). length ys ≤ 69) (sym (e count)) h }

-- a line of a few acts
plain : (w : Work) → ((count other : ℕ) → accesses count w.acts ≡ accesses other w.acts) → T (leb (length (accesses 0 w.acts)) 69) → Settled w
plain w e t = has_just w (accesses 0 w.acts) (λ count. e count 0) (leb-true _ 69 (is_true _ t))

chosen : (b : Bool) (x y : Work) → Settled x → Settled y → Settled (when b then x else y)
chosen b x y f g = split Settled b x y (λ _. f) (λ _. g)

module _ (job : Job) (payload : List ℕ) (short : length payload ≤ 68) where
  data_line : Settled (go_on_after (map (writes 1) (take job.n payload) ++ (writes 3 0x41 ∷ [])))
  data_line = has_just _ _ (λ count. data_writes count (take job.n payload)) (simp (length-append, length-map, length-take) (omega arith))

  read-line : Settled (stop_after (counts job.n ∷ reads_all ∷ []) Done)
  unfolding accesses
  read-line =
      has_just _ (reads_from (read_times job.n) 0 ++ (writes 3 0x50 ∷ [])) (λ _. refl)
      (simp (length-append, length-reads) (omega (arith, read_times_lem job.n)))

  pub settled : (status count : ℕ) → Settled (job_table job payload status count)
  unfolding job_table accesses
  settled status count = search (chosen, data_line, read-line, plain, tt) depth 20

length-alternates : (register other : ℕ) (xs : List ℕ) → length (alternates register other xs) ≡ length xs
unfolding alternates
length-alternates register other [] = refl
length-alternates register other (x ∷ xs) = ap suc (length-alternates other register xs)

pub recovery-few : (n : ℕ) (payload : List ℕ) → length payload ≤ 68 → length (recovers (take n payload)) ≤ 72
unfolding recovers
recovery-few n payload short = simp (length-append, length-alternates, length-take) (omega arith)
