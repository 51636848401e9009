-- A job hands up n bytes where it is a read answered 0, and else none. Assumes nothing.
use mathlib.Core.Bool.{true, false}
use mathlib.Core.List.{List, []}
use mathlib.Core.Path.{◌≡◌, refl, sym, ap, subst, ◌∙◌}
use Prim.Native.Nat.{ℕ, ◌≤◌}
use borrow.Author.Tests.{eqb-true}
use lib.Dec.{eqb}
use lib.ListN.{length, take}
use lib.Seq.{length-take-le}
use Rattle.address.specs.Number.{bit_of}
use Rattle.controller.specs.declared.record.Controller.{Controller}
use Rattle.driver.specs.Run.{Report, run, hands_up, reports, declines, job_of}
use Rattle.notation.proofs.Cases.{when-true, when-false, and_no_left, and_left, and_right, split}
use Rattle.notation.specs.Choice.{when◌then◌else◌, ◌and◌}
use Rattle.runs.proofs.Facts.{facts}
use Rattle.runs.proofs.Fits.{read-bit}
use Rattle.runs.specs.OneRun.{handed_count, HandsUpSoMany}
use Rattle.service.proofs.Formed.{formed}
use Rattle.service.specs.JobSteps.{begins}
use Rattle.service.specs.JobTable.{job_table}
use Rattle.service.specs.Request.{malformed, ready}
use Rattle.service.specs.Serve.{starts}
use Rattle.service.specs.declared.job.Job.{Job}

module _ (job : Job) (payload : List ℕ) (room places : ℕ) (script : List ℕ) (c : Controller) (l : length c.buffer ≡ 68) where
  abbrev SoMany : Report → Type 0
  SoMany r = length r.handed ≡ handed_count job r.result.answer

  declined : (answer : ℕ) → eqb answer 0 ≡ false → SoMany (declines c answer)
  unfolding declines handed_count
  declined answer e = sym (when-false _ job.n 0 (and_no_left _ _ e))

  worked : malformed job (length payload) room places (length script) ≡ false → ready c ≡ true →
      SoMany (reports job (run (job_table job payload) (starts (begins job) c) script))
  unfolding reports hands_up handed_count
  worked m r =
      let whole = run (job_table job payload) (starts (begins job) c) script in
      let n = (formed job (length payload) room places (length script) m).high in
      let f = facts job payload script room places c m r l in
      let test = eqb whole.result.answer 0 and eqb (bit_of job.direction) 1 in
      split (λ (k : ℕ). length (when test then take job.n whole.fetched else []) ≡ k) test job.n 0
      (λ e. let all = (f.carry (eqb-true _ _ (and_left _ _ e)) (read-bit job.direction (and_right _ _ e))).1 in
      ap (λ (xs : List ℕ). length xs) (when-true _ _ _ e)
      ∙ length-take-le job.n whole.fetched (subst (λ (k : ℕ). job.n ≤ k) (sym all) n))
      (λ e. ap (λ (xs : List ℕ). length xs) (when-false _ (take job.n whole.fetched) [] e))

pub hands_up_so_many : HandsUpSoMany
unfolding job_of
hands_up_so_many job payload room places script c l =
    let P = SoMany job payload room places script c l in
    let no = declined job payload room places script c l in
    split P _ _ _ (λ _. no 21 refl) (λ m. split P _ _ _ (λ r. worked job payload room places script c l m r) (λ _. no 22 refl))
