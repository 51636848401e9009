-- A job answered 25 ends at 38h, as its 40h leaves it. Assumes nothing.
use mathlib.Core.Bool.{Bool, true, false, true≢false}
use mathlib.Core.List.{List, [], ◌∷◌}
use mathlib.Core.Path.{◌≡◌, refl, sym, ap, subst, ◌∙◌}
use Prim.Native.Nat.{ℕ}
use lib.Dec.{eqb}
use borrow.Author.Tests.{eqb-false}
use Rattle.answer.specs.Ending.{number_of}
use Rattle.answer.specs.declared.ending.Ending.TheVariants as ending
use Rattle.answer.specs.declared.ending.Ending.{Ending}
use Rattle.control.specs.Flags.{flags_of}
use Rattle.control.specs.Turn.{status_of, at38h}
use Rattle.controller.specs.Event.{event_of}
use Rattle.controller.specs.Record.{sound}
use Rattle.controller.specs.Registers.{wrote}
use Rattle.controller.specs.Reply.{Outcome, accepts}
use Rattle.controller.specs.declared.record.Controller.{Controller}
use Rattle.driver.specs.Run.{Result, Report, Run, closes, breaks, sending, taking, run, reports, declines, job_of}
use Rattle.laws.proofs.Soundness.{event-stays-sound}
use Rattle.laws.proofs.Status.{status-reads}
use Rattle.laws.proofs.Status38h.{status_38h_stays}
use Rattle.notation.proofs.Cases.{and_left, split}
use Rattle.notation.specs.Choice.{when◌then◌else◌}
use Rattle.runs.specs.OneRun.{HeldAt38h, LostHeld}
use Rattle.service.proofs.AnyTable.{acts_leave}
use Rattle.service.proofs.Sound.{KeepsSound, acts-sound, performs-sound}
use Rattle.service.specs.Act.{Act, writes, Work, put, reads, does, does_all, follows, performs}
use Rattle.service.specs.JobSteps.{begins, go_on_after, stop_after, end_after}
use Rattle.service.specs.JobTable.{job_table}
use Rattle.service.specs.Progress.{starting}
use Rattle.service.specs.Request.{ready}
use Rattle.service.specs.Serve.{starts, serve}
use Rattle.service.specs.declared.job.Job.{Job}
use Rattle.service.specs.declared.progress.Progress.{Progress}

-- While a job lasts, the answer noted is not 25. Once it is, the job is over, and the record held at 38h.
abbrev Not25 : Progress → Type 0
Not25 p = number_of p.ending ≡ 25 → ⊥

record Fair (q : Progress) : Type 0 where
  lost : number_of q.ending ≡ 25 → (q.over ≡ true) × HeldAt38h q.controller

never : {A : Type 0} (k : ℕ) → eqb k 25 ≡ false → k ≡ 25 → A
never k h e = absurd (eqb-false k 25 h e)

other : (q : Progress) → Not25 q → Fair q
other q n = record { lost = λ e. absurd (n e) }

-- 40h at 38h
put_40 : (c : Controller) → sound c ≡ true → at38h c.turn ≡ true → HeldAt38h (put c 3 0x40)
unfolding put flags_of wrote accepts
put_40 c s l =
    subst (λ (o : Outcome). HeldAt38h o.next) (sym ((status_38h_stays c s l).enabling 0x40 refl))
    (record { status = l; aa = refl; ensio = refl; sta = refl; mode = refl; hand = refl; moved = refl })

module _ (job : Job) (payload : List ℕ) (p : Progress) (n : Not25 p) (s : KeepsSound p) where
  goes_on_lem : (acts : List Act) → Fair (performs (go_on_after acts) p)
  unfolding performs follows
  goes_on_lem acts = other _ (λ e. n (ap number_of (sym (acts_leave acts p).ending) ∙ e))

  stops : (acts : List Act) (e : Ending) → eqb (number_of e) 25 ≡ false → Fair (performs (stop_after acts e) p)
  unfolding performs follows
  stops acts e h = other _ (never (number_of e) h)

  faults : Fair (performs (end_after [] ending.Fault) p)
  unfolding performs follows
  faults = other _ (never 26 refl)

  loses : at38h p.controller.turn ≡ true → Fair (performs (end_after (writes 3 0x40 ∷ []) ending.Lost) p)
  unfolding performs does_all does follows
  loses l = record { lost = λ e. (refl, put_40 p.controller s l) }

  chosen : (b : Bool) (x y : Work) → (b ≡ true → Fair (performs x p)) → (b ≡ false → Fair (performs y p)) → Fair (performs (when b then x else y) p)
  chosen b x y f g = split (λ w. Fair (performs w p)) b x y f g

  works : (count : ℕ) → Fair (performs (job_table job payload (status_of p.controller.turn) count) p)
  unfolding job_table
  works count = search (chosen, goes_on_lem, stops, loses, faults) depth 20

  -- after a pair
  serves : (event : ℕ) → Fair (serve (job_table job payload) event p)
  unfolding serve follows reads
  serves event =
      split Fair (eqb event 14) _ _ (λ _. other _ (never 29 refl))
      (λ _. split Fair (eqb event 4) _ _ (λ _. other _ n)
      (λ _. split Fair _ _ _ (λ _. other p n)
      (λ _. subst (λ (status : ℕ). Fair (performs (job_table job payload status p.count) p)) (sym (status-reads p.controller s)) (works p.count))))

  serves-sound : (event : ℕ) → KeepsSound (serve (job_table job payload) event p)
  unfolding serve follows
  serves-sound event =
      split KeepsSound (eqb event 14) _ _ (λ _. s)
      (λ _. split KeepsSound (eqb event 4) _ _ (λ _. s) (λ _. split KeepsSound _ _ _ (λ _. s) (λ _. performs-sound _ p s)))

-- of what a run gives
abbrev Held : Result → Type 0
Held r = r.answer ≡ 25 → HeldAt38h r.next

lost-run : (job : Job) (payload script : List ℕ) (p : Progress) → Not25 p → KeepsSound p → Held (run (job_table job payload) p script).result
unfolding run breaks sending closes taking
lost-run job payload [] p n s = never 27 refl
lost-run job payload (event ∷ []) p n s = never 27 refl
lost-run job payload (event ∷ argument ∷ rest) p n s =
    let o = event_of p.controller event argument in
    let sound-next = event-stays-sound p.controller event argument s in
    let q = serve (job_table job payload) event (taking p o.next) in
    let fair = serves job payload (taking p o.next) n sound-next event in
    let P : Run → Type 0 = λ r. Held r.result in
    split P (eqb o.refused 0) _ _
    (λ _. split P q.over (closes q) (run (job_table job payload) q rest) (λ _ e. (fair.lost e).1)
    (λ lasts. lost-run job payload rest q (λ e. absurd (true≢false (sym (fair.lost e).0 ∙ lasts)))
    (serves-sound job payload (taking p o.next) n sound-next event)))
    (λ _. never 28 refl)

pub lost-held : LostHeld
unfolding job_of declines reports starts starting ready
lost-held job payload room places script c =
    let P : Report → Type 0 = λ r. Held r.result in
    split P _ _ _ (λ _. never 21 refl)
    (λ _. split P _ _ _
    (λ r. lost-run job payload script (starts (begins job) c) (λ e. never 27 refl (ap number_of (sym (acts_leave (begins job) (starting c)).ending) ∙ e))
    (acts-sound (begins job) (starting c) (and_left _ _ r)))
    (λ _. never 22 refl))
