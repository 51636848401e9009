-- A job that the port begins amid another master's traffic is the job begun before it. Assumes nothing.
use mathlib.Core.Bool.{Bool}
use mathlib.Core.List.{List, [], ◌∷◌, ◌++◌}
use mathlib.Core.Path.{◌≡◌, refl, sym, ap, ◌∙◌}
use Prim.Native.Nat.{ℕ, ◌%◌}
use native.Mathlib.Omega.{arith}
use lib.Dec.{eqb}
use lib.ListN.{length}
use Rattle.control.specs.declared.flags.Control.{Control}
use Rattle.controller.specs.declared.record.Controller.{Controller}
use Rattle.driver.specs.Run.{Run, reports, job_of}
use Rattle.notation.proofs.Cases.{when-true, when-false, and_left, and_right}
use Rattle.port_job.proofs.JobsAlone.{whole-fits}
use Rattle.port_job.proofs.OneJob.{gives-job}
use Rattle.port_job.proofs.Ready.{not-true, waiting-calm, waiting-looks}
use Rattle.port_job.proofs.Traffic.{amid, ready-waiting, traffic_first}
use Rattle.port_job.specs.Items.{port_job_of}
use Rattle.port_job.specs.OnModel.{at}
use Rattle.port_job.specs.Traffic.{OthersTraffic, after_pairs, pairs, later, later_report, AmidTraffic}
use Rattle.service.specs.Request.{ready}
use Rattle.service.specs.declared.job.Job.{Job}

-- the traffic is whole pairs
whole-after : (traffic script : List ℕ) (c : Controller) → OthersTraffic traffic c → length (traffic ++ script) % 2 ≡ length script % 2
whole-after [] script c t = refl
whole-after (number ∷ []) script c t = absurd t
whole-after (number ∷ argument ∷ rest) script c t = let e = whole-after rest script _ t.2 in omega (arith, e)

-- a run's report is later as the run is
reports-later : (job : Job) (k : ℕ) (r : Run) → later_report k (reports job r) ≡ reports job (later k r)
unfolding later_report reports later
reports-later job k r = refl

pub amid_traffic : AmidTraffic
unfolding ready port_job_of job_of
amid_traffic asked payload traffic script p c u n even r a z l t =
    let m = amid asked traffic c (ready-waiting c r a) t in
    let d = after_pairs traffic c in
    let same : (f : Control → Bool) → f d.control ≡ f c.control = λ f. ap f m.flags in
    let flags = and_right _ _ (and_right _ _ r) in
    let looks =
    waiting-looks d m.waits.still-sound m.waits.turn (same (λ k. k.ensio) ∙ and_left _ _ flags)
    (same (λ k. k.sta) ∙ not-true _ (and_right _ _ flags)) (same (λ k. k.sto) ∙ z) in
    let gives = (gives-job asked payload script (at p d) m.waits.still-sound (ap length m.buffer ∙ l) (λ _. waiting-calm m.waits.turn)).same in
    let begins = when-false _ _ _ n ∙ when-false _ _ _ u ∙ when-true _ _ _ looks in
    let whole = whole-fits asked (length payload) (length (traffic ++ script)) (ap (λ (k : ℕ). eqb k 1) (whole-after traffic script c t) ∙ even) in
    let theirs = when-false _ _ _ (whole ∙ n) ∙ when-true _ _ _ r in (
      looks,
      ap (later_report (pairs traffic)) (gives ∙ begins) ∙ reports-later asked (pairs traffic) _
          ∙ ap (reports asked) (sym (traffic_first asked payload traffic script c r a t)) ∙ sym theirs,
    )
