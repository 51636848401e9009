-- The lines that a job can meet: at the status at which it is done n reads of I2CDAT, in a write none, and 50h are in hand; no other leads to answer 0.
-- Assumes nothing.
use mathlib.Core.Bool.{Bool, true, false, not}
use mathlib.Core.List.{List, [], ◌∷◌, ◌++◌}
use mathlib.Core.Path.{◌≡◌, refl, sym, ap, ◌∙◌}
use Prim.Native.Nat.{ℕ, zero, suc, ◌+◌, ◌≤◌, ◌<◌}
use native.Mathlib.Omega.{arith}
use borrow.Author.Tests.{le-ltb}
use lib.Dec.{T, eqb, ltb}
use lib.ListN.{length, length-append}
use Rattle.address.specs.declared.number.Direction.TheVariants.{Write, Read}
use Rattle.address.specs.declared.number.Direction.{Direction}
use Rattle.answer.specs.Ending.{number_of}
use Rattle.answer.specs.declared.ending.Ending.TheVariants.{Done}
use Rattle.notation.proofs.Among.{every, same, one_of, passes}
use Rattle.notation.proofs.Cases.{when-false, or-on}
use Rattle.notation.specs.Choice.{when◌then◌else◌, ◌or◌, among}
use Rattle.port.specs.InHand.{reads_from, accesses, nth}
use Rattle.port.specs.Look.{meets}
use Rattle.port_chip.proofs.InHand.{length-reads}
use Rattle.port_chip.specs.AnyChip.{done_status}
use Rattle.service.specs.Act.{Act, writes, reads_data, Then, goes_on, awaits, ends, finishes, read_times}
use Rattle.service.specs.JobTable.{job_table}
use Rattle.service.specs.declared.job.Job.{Job}

-- how many bytes a job reads
abbrev pub to_read : Direction → ℕ → ℕ
to_read Write n = 0
to_read Read n = n

abbrev pub bytes_of : Job → ℕ
bytes_of job = to_read job.direction job.n

pub few_to_read : (d : Direction) (n : ℕ) → n ≤ 68 → to_read d n ≤ 68
few_to_read Write n h = omega arith
few_to_read Read n h = h

-- where there are bytes to read the job is a read, done at 58h
pub done_at_58h : (d : Direction) (n made : ℕ) → made < to_read d n → done_status d ≡ 0x58
done_at_58h Write n made h = absurd (omega arith)
done_at_58h Read n made h = refl

-- so many reads of I2CDAT and 50h
abbrev pub fetches : ℕ → List Act
fetches n = reads_from n 0 ++ (writes 3 0x50 ∷ [])

module _ (job : Job) (payload : List ℕ) (status count : ℕ) where
  pub in_hand_when_done : (d : Direction) → status ≡ done_status d → job.n ≤ 68 →
      accesses count (job_table job payload status count).acts ≡ fetches (to_read d job.n)
  unfolding job_table accesses among when◌then◌else◌ read_times reads_from
  in_hand_when_done Write e h = ap (λ (k : ℕ). accesses count (job_table job payload k count).acts) e
  in_hand_when_done Read e h =
      ap (λ (k : ℕ). accesses count (job_table job payload k count).acts) e ∙ ap fetches (when-false (ltb 68 job.n) 68 job.n (le-ltb 68 job.n h))

  pub after-done : (d : Direction) → status ≡ done_status d → (job_table job payload status count).after ≡ awaits Done
  unfolding job_table among when◌then◌else◌
  after-done Write e = ap (λ (k : ℕ). (job_table job payload k count).after) e
  after-done Read e = ap (λ (k : ℕ). (job_table job payload k count).after) e

pub length-fetches : (n : ℕ) → length (fetches n) ≡ n + 1
length-fetches n = simp (length-append, length-reads)

-- the first of some accesses of which z is the last, and the others
nth_head : (x z : Act) (xs : List Act) → nth (x ∷ (xs ++ (z ∷ []))) 0 ≡ x
unfolding nth
nth_head x z [] = refl
nth_head x z (y ∷ ys) = refl

nth_tail : (x z : Act) (xs : List Act) (k : ℕ) → nth (x ∷ (xs ++ (z ∷ []))) (suc k) ≡ nth (xs ++ (z ∷ [])) k
unfolding nth
nth_tail x z [] k = refl
nth_tail x z (y ∷ ys) k = refl

nth_read : (more i k : ℕ) (z : Act) → k < more → nth (reads_from more i ++ (z ∷ [])) k ≡ reads_data (i + k)
unfolding reads_from
nth_read zero i k z h = absurd (omega arith)
nth_read (suc more) i zero z h = nth_head (reads_data i) z (reads_from more (i + 1)) ∙ ap reads_data (omega arith)
nth_read (suc more) i (suc k) z h =
    nth_tail (reads_data i) z (reads_from more (i + 1)) k ∙ nth_read more (i + 1) k z (omega arith) ∙ ap reads_data (omega arith)

nth_last : (more i : ℕ) (z : Act) → nth (reads_from more i ++ (z ∷ [])) more ≡ z
unfolding reads_from nth
nth_last zero i z = refl
nth_last (suc more) i z = nth_tail (reads_data i) z (reads_from more (i + 1)) more ∙ nth_last more (i + 1) z

pub fetch-made : (n made : ℕ) → made < n → nth (fetches n) made ≡ reads_data made
fetch-made n made h = nth_read n 0 made _ h ∙ ap reads_data (omega arith)

pub fetch-last : (n : ℕ) → nth (fetches n) n ≡ writes 3 0x50
fetch-last n = nth_last n 0 _

-- what follows leads to no answer 0
abbrev pub fruitless : Then → Bool
fruitless goes_on = true
fruitless (awaits ending) = not (eqb (number_of ending) 0)
fruitless (ends ending) = not (eqb (number_of ending) 0)
fruitless finishes = false

module _ (job : Job) (payload : List ℕ) (count : ℕ) where
  abbrev done_or_fruitless : Direction → ℕ → Bool
  done_or_fruitless d status = eqb status (done_status d) or fruitless (job_table job payload status count).after

  all_lines : (d : Direction) → T (every (λ k. same (done_or_fruitless d k) true) (meets d))
  unfolding job_table among when◌then◌else◌ ◌or◌
  all_lines Write = tt
  all_lines Read = tt

  pub others-fruitless : (d : Direction) (status : ℕ) → among status (meets d) ≡ true → eqb status (done_status d) ≡ false →
      fruitless (job_table job payload status count).after ≡ true
  others-fruitless d status e other =
      sym (or-on _ _ other) ∙ passes (done_or_fruitless d) true (meets d) status (one_of (meets d) status e) (all_lines d)
