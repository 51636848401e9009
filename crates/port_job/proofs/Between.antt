-- What holds of port and controller between two items of a list, and that each item keeps it. Assumes nothing.
use mathlib.Core.Bool.{Bool, true, false}
use mathlib.Core.List.{List}
use mathlib.Core.Path.{◌≡◌, refl, sym, ap, subst, ◌∙◌}
use Prim.Native.Nat.{ℕ}
use lib.ListN.{length}
use Rattle.controller.specs.Record.{sound}
use Rattle.controller.specs.declared.record.Controller.{Controller}
use Rattle.laws.proofs.Soundness.{event-stays-sound}
use Rattle.port.specs.Begin.{unsettled, bad_settings}
use Rattle.port_job.proofs.EventsBetween.{event-keeps}
use Rattle.port_job.proofs.OneJob.{JobLeaves, untouched, began, gives-job}
use Rattle.port_job.proofs.PortRecovers.{declines, recovers_so}
use Rattle.port_job.proofs.Ready.{Calm, freed, left-calm}
use Rattle.port_job.specs.Items.{Item, job, recovery, event, leaves}
use Rattle.port_job.specs.OnModel.{At, at, Played, played}
use Rattle.service.specs.declared.job.Job.{Job}

-- the record is sound, with its 68 places, and calm where the port calls the chip its own
pub record Between (s : At) : Type 0 where
  pub still-sound : sound s.chip ≡ true
  pub places : length s.chip.buffer ≡ 68
  pub calm : unsettled s.port.stand ≡ false → Calm s.chip

-- where nothing changed
unchanged : (s t : At) → t.chip ≡ s.chip → unsettled t.port.stand ≡ unsettled s.port.stand → Between s → Between t
unchanged s t e u b =
    let same = sym e in
    record {
      still-sound = subst (λ (c : Controller). sound c ≡ true) same b.still-sound;
      places = subst (λ (c : Controller). length c.buffer ≡ 68) same b.places;
      calm = λ v. subst Calm same (b.calm (sym u ∙ v));
    }

-- an event
event-between : (number argument : ℕ) (s : At) → Between s → Between (leaves (event number argument) s)
unfolding leaves
event-between number argument s b =
    let k = event-keeps s.chip number argument in
    record {
      still-sound = event-stays-sound s.chip number argument b.still-sound;
      places = k.sized ∙ b.places;
      calm = λ u. k.calm (b.calm u);
    }

-- a recovery, from whatever was before; and one that is not taken
pub recovered-between : (settings : List ℕ) (s : At) → sound s.chip ≡ true → length s.chip.buffer ≡ 68 → bad_settings settings ≡ false →
    Between (leaves (recovery settings) s)
unfolding leaves
recovered-between settings s sc l b =
    let r = (recovers_so settings s b sc).back in
    record { still-sound = r.still-sound; places = ap length r.same ∙ l; calm = λ _. left-calm (freed r.freed) }

declined-between : (settings : List ℕ) (s : At) → Between s → bad_settings settings ≡ true → Between (leaves (recovery settings) s)
unfolding leaves
declined-between settings s b bad = let d = declines settings s bad in unchanged s _ d.same d.settles b

-- a job
after-job : (s : At) (r : Played) → Between s → JobLeaves s r → Between (at r.port r.result.next)
after-job s r b (untouched e u n) = unchanged s _ e u b
after-job s r b (began l) = record { still-sound = l.still-sound; places = l.places; calm = λ u. left-calm (l.ended u) }

pub job-between : (asked : Job) (payload script : List ℕ) (s : At) → Between s → Between (leaves (job asked payload script) s)
unfolding leaves
job-between asked payload script s b =
    after-job s (played asked payload script s) b (gives-job asked payload script s b.still-sound b.places b.calm).leaves

-- any item
pub item_between : (x : Item) (s : At) → Between s → Between (leaves x s)
item_between (job asked payload script) s b = job-between asked payload script s b
item_between (event number argument) s b = event-between number argument s b
item_between (recovery settings) s b = by_settings (bad_settings settings) refl
  where
    by_settings : (x : Bool) → bad_settings settings ≡ x → Between (leaves (recovery settings) s)
    by_settings true e = declined-between settings s b e
    by_settings false e = recovered-between settings s b.still-sound b.places e
