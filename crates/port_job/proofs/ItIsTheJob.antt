-- The port run against the model is the job. Assumes nothing.
use mathlib.Core.Bool.{true, false, true≢false}
use mathlib.Core.List.{List, [], ◌∷◌}
use mathlib.Core.Path.{◌≡◌, sym, ◌∙◌}
use Prim.Native.Nat.{ℕ}
use Rattle.controller.specs.Record.{sound}
use Rattle.notation.specs.Choice.{among}
use Rattle.port.specs.Begin.{bad_settings}
use Rattle.port.specs.Port.{asking}
use Rattle.port.specs.declared.ask.Ask.TheVariants.{Over}
use Rattle.port_job.proofs.Between.{Between, recovered-between, item_between}
use Rattle.port_job.proofs.OneJob.{JobLeaves, untouched, began, gives-job}
use Rattle.port_job.proofs.PortRecovers.{declines, recovers_so}
use Rattle.port_job.proofs.Ready.{calm-looks, freed-looks, freed-ready}
use Rattle.port_job.specs.ItIsTheJob.{ReadyAgain, JobHolds, RecoveryHolds, Holds, Each, ItIsTheJob}
use Rattle.port_job.specs.Items.{Item, job, recovery, event, leaves}
use Rattle.port_job.specs.OnModel.{At, at, Played, played}
use Rattle.service.specs.declared.job.Job.{Job}

-- own STOP leaves port and model ready
ready-again : (s : At) (r : Played) → JobLeaves s r → among r.result.answer (0 ∷ 23 ∷ 24 ∷ []) ≡ true → ReadyAgain (at r.port r.result.next)
ready-again s r (untouched e u n) a = absurd (true≢false (sym a ∙ n))
ready-again s r (began l) a =
    let f = l.finished a in
    record { brought_back = f.0; looks = freed-looks _ l.still-sound f.1; is_ready = freed-ready _ l.still-sound f.1 }

job-holds : (asked : Job) (payload script : List ℕ) (s : At) → Between s → JobHolds asked payload script s
unfolding leaves
job-holds asked payload script s b =
    let g = gives-job asked payload script s b.still-sound b.places b.calm in
    record {
      ready_or_busy = λ u l. (calm-looks s.chip b.still-sound (b.calm u) l).ready-or-busy;
      same = g.same;
      again = ready-again s (played asked payload script s) g.leaves;
    }

recovery-holds : (settings : List ℕ) (s : At) → sound s.chip ≡ true → RecoveryHolds settings s
unfolding leaves
recovery-holds settings s sc = record { done = done; refused = λ b. let d = declines settings s b in (d.refused, d.same) }
  where
    done : bad_settings settings ≡ false →
        (asking (leaves (recovery settings) s).port ≡ Over 0 0) × ReadyAgain (leaves (recovery settings) s)
    done b =
        let r = recovers_so settings s b sc in
        let k = r.back in
        (r.done, record { brought_back = r.settles; looks = freed-looks _ k.still-sound k.freed; is_ready = freed-ready _ k.still-sound k.freed })

holds : (x : Item) (s : At) → Between s → Holds x s
holds (job asked payload script) s b = job-holds asked payload script s b
holds (recovery settings) s b = recovery-holds settings s b.still-sound
holds (event number argument) s b = tt

each_holds : (items : List Item) (s : At) → Between s → Each items s
each_holds [] s b = tt
each_holds (x ∷ items) s b = (holds x s b, each_holds items _ (item_between x s b))

pub it_is_the_job : ItIsTheJob
it_is_the_job settings items s sc l b = (recovery-holds settings s sc, each_holds items _ (recovered-between settings s sc l b))
