-- What is taken of an input that is not bad. Assumes nothing.
use mathlib.Core.Bool.{false, true}
use mathlib.Core.List.{List}
use mathlib.Core.Path.{◌≡◌, sym, ap, ◌∙◌}
use Prim.Native.Nat.{ℕ, ◌+◌, ◌-◌, ◌<◌, ◌≤◌}
use native.Mathlib.Omega.{arith}
use borrow.Author.Tests.{le-ltb, lt-ltb, ltb-false}
use lib.ListN.{length, take, drop, length-drop}
use lib.Seq.{take_all, drop-drop}
use Rattle.job.specs.Program.{kind_of, data_size, bad_input, job_in, IsParsed}
use lib.Dec.{eqb}
use Rattle.address.specs.declared.number.Direction.TheVariants.{Write, Read}
use Rattle.address.specs.declared.number.Direction.{Direction}
use Rattle.notation.proofs.Cases.{or_right, or-false, or-left-off, or_right_off, split, when-true, when-false}
use Rattle.notation.specs.Choice.{when◌then◌else◌}
use Rattle.requests.specs.Jobs.{data_length, direction_for}
use Rattle.service.specs.declared.job.Job.{Job}

-- the data that go with the job are as many as the input says
pub same_size : (kind n : ℕ) → data_length (direction_for kind) n ≡ (when eqb kind 0 then n else 0)
unfolding data_length direction_for
same_size kind n =
    split (λ (d : Direction). data_length d n ≡ (when eqb kind 0 then n else 0)) (eqb kind 0) Write Read
    (λ h. sym (when-true _ _ _ h)) (λ h. sym (when-false _ _ _ h))

module _ (input : List ℕ) (fine : bad_input input ≡ false) where
  pub has_head : 3 ≤ length input
  unfolding bad_input
  has_head = ltb-false (length input) 3 (or-left-off _ _ (or_right_off _ _ fine))

  pub has_data : 3 + data_size input ≤ length input
  unfolding bad_input
  has_data = ltb-false (length input) (3 + data_size input) (or_right_off _ _ (or_right_off _ _ (or_right_off _ _ fine)))

-- by what its head shows, and what stands after it
module _ (input rest payload script : List ℕ) (asked : Job) (size : ℕ) (short : length input ≤ 4096) (head : 3 ≤ length input) (kind : kind_of input ≤ 1)
    (tail : rest ≡ take (length input - 3) (drop 3 input)) (same : size ≡ data_size input) where
  is-rest : rest ≡ drop 3 input
  is-rest = tail ∙ take_all (length input - 3) (drop 3 input) (omega (arith, length-drop 3 input))

  fine : size ≤ length rest → bad_input input ≡ false
  unfolding bad_input
  fine h =
      or-false _ _ (le-ltb 4096 (length input) short) (or-false _ _ (le-ltb (length input) 3 head) (or-false _ _ (le-ltb 1 (kind_of input) kind)
      (le-ltb (length input) (3 + data_size input) (omega (arith, h, ap length is-rest, length-drop 3 input)))))

  pub cut_short : length rest < size → bad_input input ≡ true
  unfolding bad_input
  cut_short h =
      or_right _ _ (or_right _ _ (or_right _ _
      (lt-ltb (length input) (3 + data_size input) (omega (arith, h, same, ap length is-rest, length-drop 3 input)))))

  pub parsed : size ≤ length rest → asked ≡ job_in input → payload ≡ take size rest → script ≡ drop size rest → IsParsed input asked payload script
  parsed h j p s = record {
    fine = fine h;
    job = j;
    sent = p ∙ ap (take size) is-rest ∙ ap (λ (k : ℕ). take k (drop 3 input)) same;
    rest = s ∙ ap (drop size) is-rest ∙ drop-drop size 3 input ∙ ap (λ (k : ℕ). drop (3 + k) input) same;
  }
