-- Where nothing comes between jobs and recoveries, what the port gives is the job to the letter. Assumes nothing.
use mathlib.Core.Bool.{Bool, true, false, true≢false}
use mathlib.Core.List.{List, [], ◌∷◌}
use mathlib.Core.Path.{◌≡◌, refl, sym, ap, subst, ◌∙◌}
use Prim.Native.Nat.{ℕ, ◌%◌}
use lib.Dec.{eqb}
use lib.ListN.{length}
use Rattle.controller.specs.Record.{sound}
use Rattle.controller.specs.declared.record.Controller.{Controller}
use Rattle.driver.specs.Run.{Report, job_of, declines}
use Rattle.notation.proofs.Cases.{when-false}
use Rattle.notation.specs.Choice.{when◌then◌else◌}
use Rattle.port.specs.Begin.{unfit, unsettled, bad_settings}
use Rattle.port_job.proofs.Between.{Between, recovered-between, job-between}
use Rattle.port_job.proofs.OneJob.{JobLeaves, untouched, began, gives-job}
use Rattle.port_job.proofs.PortRecovers.{recovers_so}
use Rattle.port_job.proofs.Ready.{freed, alike}
use Rattle.port_job.specs.ItIsTheJob.{AllWhole, EachSame, JobsAlone}
use Rattle.port_job.specs.Items.{Item, job, recovery, event, leaves, looks_ready, port_job_of}
use Rattle.port_job.specs.OnModel.{At, at, Played, played}
use Rattle.service.specs.Request.{malformed, ready}
use Rattle.service.specs.declared.job.Job.{Job}

-- port and model agree on whether a job can begin
record Agree (s : At) : Type 0 where
  unready : unsettled s.port.stand ≡ true → ready s.chip ≡ false
  alike : unsettled s.port.stand ≡ false → looks_ready s.chip ≡ ready s.chip

agree_job : (s : At) (r : Played) → Agree s → JobLeaves s r → Agree (at r.port r.result.next)
agree_job s r a (untouched e u n) =
    let same = sym e in
    record {
      unready = λ v. subst (λ (c : Controller). ready c ≡ false) same (a.unready (sym u ∙ v));
      alike = λ v. subst (λ (c : Controller). looks_ready c ≡ ready c) same (a.alike (sym u ∙ v));
    }
agree_job s r a (began l) = record { unready = l.given_up_lem; alike = λ u. alike _ l.still-sound (l.ended u) }

agree_recovered : (settings : List ℕ) (s : At) → sound s.chip ≡ true → bad_settings settings ≡ false → Agree (leaves (recovery settings) s)
unfolding leaves
agree_recovered settings s sc b =
    let r = recovers_so settings s b sc in
    record {
      unready = λ u. absurd (true≢false (sym u ∙ r.settles));
      alike = λ _. alike _ r.back.still-sound (freed r.back.freed);
    }

-- a script of whole pairs makes no job unfit
pub whole-fits : (asked : Job) (given bytes : ℕ) → eqb (bytes % 2) 1 ≡ false → malformed asked given 68 69 bytes ≡ unfit asked given
unfolding malformed
whole-fits asked given bytes e = rw e

-- 22 by what the port knows and the registers tell, or by the model's own test
either_test : (u l r : Bool) (x y : Report) → (u ≡ true → r ≡ false) → (u ≡ false → l ≡ r) →
    (when u then y else when l then x else y) ≡ (when r then x else y)
unfolding when◌then◌else◌
either_test true l r x y f g = sym (when-false r x y (f refl))
either_test false l r x y f g = ap (λ (b : Bool). when b then x else y) (g refl)

same_choice : (asked : Job) (payload script : List ℕ) (s : At) → Agree s → eqb (length script % 2) 1 ≡ false →
    port_job_of asked payload script s.port.stand s.chip ≡ job_of asked payload 68 69 script s.chip
unfolding port_job_of job_of
same_choice asked payload script s a e =
    rw (whole-fits asked (length payload) (length script) e)
    (ap (λ (r : Report). when unfit asked (length payload) then declines s.chip 21 else r)
    (either_test (unsettled s.port.stand) (looks_ready s.chip) (ready s.chip) _ _ a.unready a.alike))

each_same : (items : List Item) (s : At) → Between s → Agree s → AllWhole items → EachSame items s
unfolding leaves
each_same [] s b a w = tt
each_same (job asked payload script ∷ items) s b a w =
    let g = gives-job asked payload script s b.still-sound b.places b.calm in (
      g.same ∙ same_choice asked payload script s a w.0,
      each_same items _ (job-between asked payload script s b) (agree_job s (played asked payload script s) a g.leaves) w.1,
    )
each_same (recovery settings ∷ items) s b a w =
    (tt, each_same items _ (recovered-between settings s b.still-sound b.places w.0) (agree_recovered settings s b.still-sound w.0) w.1)
each_same (event number argument ∷ items) s b a w = absurd w.0

pub jobs_alone : JobsAlone
jobs_alone settings items s sc l b w = (tt, each_same items _ (recovered-between settings s sc l b) (agree_recovered settings s sc b) w)
