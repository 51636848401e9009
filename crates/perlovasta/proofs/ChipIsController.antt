-- The virtual chip is the controller. Assumes nothing.
use mathlib.Core.Bool.{Bool, true, false}
use mathlib.Core.List.{List, [], ◌∷◌}
use mathlib.Core.Path.{◌≡◌, refl, sym, ap, subst, ◌∙◌}
use Prim.Native.Nat.{ℕ, ◌≤◌}
use borrow.Author.Tests.{le-ltb}
use lib.Dec.{eqb, ltb}
use lib.ListN.{length, replicate, length-replicate}
use Rattle.controller.specs.declared.record.Controller.{Controller}
use Rattle.driver.specs.Run.{Result, Report, declines, job_of}
use Rattle.notation.proofs.Cases.{when-false, split}
use Rattle.notation.specs.Choice.{when◌then◌else◌, ◌or◌, among}
use Rattle.notation.specs.Overlay.{laid}
use Rattle.perlovasta.proofs.JobPlaces.{request_placed}
use Rattle.perlovasta.specs.ChipIsController.{Asked, access, job, replied}
use Rattle.perlovasta.specs.ChipIsController.{call_gives, bytes_after, rule_gives, record_after}
use Rattle.perlovasta.specs.ChipIsController.{calls_give, bytes_left, rules_give, record_left, ChipIsController}
use Rattle.perlovasta.specs.Job.{JobCall, request_report, job_call_on, result_left, chip_after_job}
use Rattle.requests.specs.Jobs.{job_for}
use Rattle.runs.proofs.Demand1.{demand_1}
use Rattle.service.specs.declared.job.Job.{Job}
use Rattle.virtual_chip.proofs.Bytes.{record-long, record-places}
use Rattle.virtual_chip.proofs.ReadBack.{Back, read_back_lem, called}
use Rattle.virtual_chip.specs.RecordBytes.{is_record, record_of, stored}

either_of : (a b : Bool) → (a or b) ≡ true → (when a then true else when b then true else false) ≡ true
unfolding ◌or◌ when◌then◌else◌
either_of true b e = refl
either_of false true e = refl
either_of false false e = e

-- 21 and 22 leave the record: with the lengths of destination and out record as numbers
module _ (c : Controller) (payload script : List ℕ) where
  abbrev Leaves : Report → Type 0
  Leaves r = (eqb r.result.answer 21 or eqb r.result.answer 22) ≡ true → r.result.next ≡ c

  job-leaves : (asked : Job) (room places : ℕ) → Leaves (job_of asked payload room places script c)
  unfolding among
  job-leaves asked room places =
      let d = length-replicate {A = ℕ} room 0 in
      let o = length-replicate {A = ℕ} places 0 in
      subst (λ (k : ℕ). Leaves (job_of asked payload k places script c)) d
      (subst (λ (k : ℕ). Leaves (job_of asked payload (length (replicate room 0)) k script c)) o
      (λ e. ((demand_1.jobs asked payload (replicate room 0) (replicate places 0) script c).declined (either_of _ _ e)).0))

  request_leaves : (kind address n room places : ℕ) → Leaves (request_report c kind address n payload room places script)
  unfolding request_report declines
  request_leaves kind address n room places =
      split Leaves (ltb 1 kind) _ _ (λ _ _. refl) (λ _. job-leaves (job_for kind address n) room places)

-- the record that a job left is in the bytes
left_back : (m : List ℕ) (r : Result) → is_record m ≡ true → length r.next.buffer ≡ 68 →
    ((eqb r.answer 21 or eqb r.answer 22) ≡ true → r.next ≡ record_of m) → Back r.next (laid (result_left (length m) r) m)
unfolding result_left stored laid
left_back m r there places leaves =
    let P : List ℕ → Type 0 = λ xs. Back r.next (laid xs m) in
    let long = record-long m there in
    split P _ [] _ (λ e. (there, sym (leaves e))) (λ _. subst P (sym (when-false _ _ _ (le-ltb (length m) 88 long))) (read_back_lem r.next m places long))

-- what one call gives, and the record in the bytes after it
pub one-call : (report : ℕ) (m : List ℕ) (x : Asked) → 12 ≤ report → is_record m ≡ true →
    (call_gives report m x ≡ rule_gives (record_of m) x) × Back (record_after (record_of m) x) (bytes_after report m x)
unfolding call_gives rule_gives bytes_after record_after job_call_on chip_after_job
one-call report m (access g) room there = let c = called m g.kind g.place g.value there in (ap replied c.0, c.1)
one-call report m (job j) room there =
    let c = record_of m in
    let enough = le-ltb report 12 room in
    let r = request_report c j.kind j.address j.n j.payload j.destination_length j.out_length j.script in
    let back = left_back m r.result there
    (request_placed c j.kind j.address j.n j.payload j.destination_length j.out_length j.script (record-places m))
    (request_leaves c j.payload j.script j.kind j.address j.n j.destination_length j.out_length) in
    (when-false _ _ _ enough, subst (λ (xs : List ℕ). Back r.result.next (laid xs m)) (sym (when-false _ _ _ enough)) back)

-- THE VIRTUAL CHIP IS THE CONTROLLER.
pub chip_is_controller : ChipIsController
unfolding calls_give bytes_left rules_give record_left
chip_is_controller report m [] room there = (refl, refl)
chip_is_controller report m (x ∷ xs) room there =
    let first = one-call report m x room there in
    let next = bytes_after report m x in
    let rest = chip_is_controller report next xs room first.1.0 in (
      ap (λ (g : JobCall). g ∷ calls_give report next xs) first.0
          ∙ ap (λ (gs : List JobCall). rule_gives (record_of m) x ∷ gs) (rest.0 ∙ ap (λ (c : Controller). rules_give c xs) first.1.1),
      rest.1 ∙ ap (λ (c : Controller). record_left c xs) first.1.1,
    )
