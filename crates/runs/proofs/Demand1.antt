-- Demand 1: what refused accesses and events leave, which numbers there are, and what a job leaves in the caller's memory. Assumes nothing.
use mathlib.Core.Bool.{Bool, true, false, true≢false}
use mathlib.Core.List.{List, [], ◌∷◌}
use mathlib.Core.Path.{◌≡◌, refl, sym, ap, subst, ◌∙◌}
use Prim.Native.Nat.{ℕ}
use native.Mathlib.Omega.{arith}
use borrow.Author.Tests.{eqb-true, ltb-true}
use lib.Dec.{T, eqb, ltb}
use Rattle.address.specs.Number.{bit_of}
use Rattle.address.specs.declared.number.Direction.TheVariants.{Write}
use Rattle.address.specs.declared.number.Direction.{Direction}
use Rattle.answer.specs.Ending.{number_of, beside_of}
use Rattle.answer.specs.declared.ending.Ending.TheVariants as ending
use Rattle.answer.specs.declared.ending.Ending.{Ending}
use Rattle.controller.specs.Event.{event_of}
use Rattle.controller.specs.Record.{sound}
use Rattle.controller.specs.Reply.{Outcome}
use Rattle.controller.specs.declared.record.Controller.{Controller}
use Rattle.driver.specs.Run.{Result, Run, closes, breaks, sending, taking, run, hands_up, reports, declines, job_of}
use Rattle.laws.proofs.Refusals.{Stays, of_sound_event, read_stays, write-stays, event-stays, sound-event-stays}
use Rattle.laws.proofs.Soundness.{event-stays-sound}
use Rattle.notation.proofs.Among.{has, is_true, among-has, within, clash}
use Rattle.notation.proofs.Cases.{when-false, and_no_left, and_no_right, and_left, split}
use Rattle.notation.specs.Choice.{when◌then◌else◌, among}
use Rattle.notation.specs.Overlay.{laid}
use Rattle.runs.specs.Demand1.{AccessAnswered, job_answers, JobAnswered, Demand1}
use Rattle.service.proofs.AnyTable.{acts_leave}
use Rattle.service.proofs.Sound.{KeepsSound, acts-sound, performs-sound}
use Rattle.service.specs.Act.{Then, goes_on, awaits, ends, finishes, Work, reads, follows, performs}
use Rattle.service.specs.JobSteps.{begins}
use Rattle.service.specs.JobTable.{job_table}
use Rattle.service.specs.Progress.{starting}
use Rattle.service.specs.Request.{ready}
use Rattle.service.specs.Serve.{starts, serve}
use Rattle.service.specs.declared.job.Job.{Job}
use Rattle.service.specs.declared.progress.Progress.{Progress}

answered : (c : Controller) (ns : List ℕ) (o : Outcome) → Stays c ns o → AccessAnswered c ns o
answered c ns o s =
    let never : ltb 0 o.refused ≡ true → o.refused ≡ 0 → ⊥ = λ t e. let l = ltb-true 0 o.refused t in omega (arith, l, e) in
    record { number = s.numbered; stays = λ t. (s.record-kept (never t), s.value-zero (never t)) }

-- The answers that a job which begins can note; 28 is given without a note.
abbrev noted_answers : List ℕ
noted_answers = 0 ∷ 23 ∷ 24 ∷ 25 ∷ 26 ∷ 27 ∷ 29 ∷ []

abbrev Notes : Ending → Type 0
Notes e = T (has noted_answers (number_of e))

beside_none : (e : Ending) → Notes e → beside_of e ≡ 0
beside_none ending.Done t = refl
beside_none ending.Malformed t = refl
beside_none ending.NotReady t = refl
beside_none ending.AddressNacked t = refl
beside_none ending.DataNacked t = refl
beside_none ending.Lost t = refl
beside_none ending.Fault t = refl
beside_none ending.Unfinished t = refl
beside_none (ending.Refused why) t = absurd t
beside_none ending.Reset t = refl

-- a work notes none but these
abbrev NotesAfter : Then → Type 0
NotesAfter goes_on = Unit {0}
NotesAfter (awaits e) = Notes e
NotesAfter (ends e) = Notes e
NotesAfter finishes = Unit {0}

abbrev Fine : Work → Type 0
Fine w = NotesAfter w.after

table_fine : (job : Job) (payload : List ℕ) (status count : ℕ) → Fine (job_table job payload status count)
unfolding job_table
table_fine job payload status count = search (chosen, tt) depth 20
  where
    chosen : (b : Bool) (x y : Work) → Fine x → Fine y → Fine (when b then x else y)
    chosen b x y f g = split Fine b x y (λ _. f) (λ _. g)

follows-notes : (t : Then) (p : Progress) → NotesAfter t → Notes p.ending → Notes (follows t p).ending
unfolding follows
follows-notes goes_on p f n = n
follows-notes (awaits e) p f n = f
follows-notes (ends e) p f n = f
follows-notes finishes p f n = n

performs-notes : (w : Work) (p : Progress) → Fine w → Notes p.ending → Notes (performs w p).ending
unfolding performs
performs-notes w p f n = follows-notes w.after _ f (subst Notes (sym (acts_leave w.acts p).ending) n)

-- The numbers of a result.
record Numbers (r : Result) : Type 0 where
  answer : among r.answer (28 ∷ noted_answers) ≡ true
  beside : eqb r.answer 28 ≡ true → among r.refused of_sound_event ≡ true
  none_beside : eqb r.answer 28 ≡ false → r.refused ≡ 0

ended : (p : Progress) → Notes p.ending → Numbers (closes p).result
unfolding closes
ended p n =
    let e = among-has (number_of p.ending) noted_answers ∙ is_true _ n in
    record {
      answer = within _ noted_answers (28 ∷ noted_answers) tt e;
      beside = λ t. absurd (true≢false (sym e ∙ ap (λ (k : ℕ). among k noted_answers) (eqb-true _ 28 t) ∙ among-has 28 noted_answers));
      none_beside = λ _. beside_none p.ending n;
    }

unfinished : (p : Progress) → Numbers (breaks p 27 0).result
unfolding breaks
unfinished p = record { answer = among-has 27 (28 ∷ noted_answers); beside = λ t. absurd (true≢false (sym t)); none_beside = λ _. refl }

-- refused by an event: a number of the table, and not 0
refused : (p : Progress) (o : Outcome) → Stays p.controller of_sound_event o → eqb o.refused 0 ≡ false → Numbers (breaks p 28 o.refused).result
unfolding breaks among
refused p o s e = record {
  answer = among-has 28 (28 ∷ noted_answers);
  beside = λ _. sym (when-false (eqb o.refused 0) true _ e) ∙ s.numbered;
  none_beside = λ t. absurd (true≢false t);
}

module _ (job : Job) (payload : List ℕ) where
  serve-notes : (event : ℕ) (p : Progress) → Notes p.ending → Notes (serve (job_table job payload) event p).ending
  unfolding serve follows
  serve-notes event p n =
      let P : Progress → Type 0 = λ q. Notes q.ending in
      split P (eqb event 14) _ _ (λ _. tt)
      (λ _. split P (eqb event 4) _ _ (λ _. n)
      (λ _. split P (eqb (reads p.controller 0) 0xF8) _ _ (λ _. n) (λ _. performs-notes _ p (table_fine job payload _ p.count) n)))

  serve-sound : (event : ℕ) (p : Progress) → KeepsSound p → KeepsSound (serve (job_table job payload) event p)
  unfolding serve follows
  serve-sound event p s =
      split KeepsSound (eqb event 14) _ _ (λ _. s)
      (λ _. split KeepsSound (eqb event 4) _ _ (λ _. s)
      (λ _. split KeepsSound (eqb (reads p.controller 0) 0xF8) _ _ (λ _. s) (λ _. performs-sound _ p s)))

  run_numbers : (script : List ℕ) (p : Progress) → Notes p.ending → KeepsSound p → Numbers (run (job_table job payload) p script).result
  unfolding run sending taking
  run_numbers [] p n s = unfinished p
  run_numbers (event ∷ []) p n s = unfinished p
  run_numbers (event ∷ argument ∷ rest) p n s =
      let P : Run → Type 0 = λ r. Numbers r.result in
      let o = event_of p.controller event argument in
      let q = serve (job_table job payload) event (taking p o.next) in
      let m = serve-notes event (taking p o.next) n in
      let t = serve-sound event (taking p o.next) (event-stays-sound p.controller event argument s) in
      split P (eqb o.refused 0) _ _
      (λ _. split P q.over (closes q) (run (job_table job payload) q rest) (λ _. ended q m) (λ _. run_numbers rest q m t))
      (refused p o (sound-event-stays p.controller event argument s))

  -- a job that begins
  module _ (c : Controller) (destination out script : List ℕ) where
    no_read : (d : Direction) → d ≡ Write → eqb (bit_of d) 1 ≡ false
    unfolding bit_of
    no_read d e = ap (λ (x : Direction). eqb (bit_of x) 1) e

    worked : sound c ≡ true → JobAnswered job c destination out (reports job (run (job_table job payload) (starts (begins job) c) script))
    unfolding reports hands_up starts starting laid
    worked s =
        let begun = subst Notes (sym (acts_leave (begins job) (starting c)).ending) tt in
        let n = run_numbers script (starts (begins job) c) begun (acts-sound (begins job) (starting c) s) in
        let none : (xs : List ℕ) → xs ≡ [] → laid xs destination ≡ destination = λ xs e. ap (λ (ys : List ℕ). laid ys destination) e in
        record {
          answer = within _ (28 ∷ noted_answers) job_answers tt n.answer;
          beside = n.beside;
          none_beside = n.none_beside;
          declined = λ e. clash _ (28 ∷ noted_answers) (21 ∷ 22 ∷ []) tt n.answer e;
          not_done = λ e. none _ (when-false _ _ _ (and_no_left _ _ e));
          of_write = λ e. none _ (when-false _ _ _ (and_no_right _ _ (no_read job.direction e)));
        }

    -- 21 and 22
    not-begun : (answer : ℕ) → T (has job_answers answer) → eqb answer 28 ≡ false → JobAnswered job c destination out (declines c answer)
    unfolding declines laid
    not-begun answer t n = record {
      answer = among-has answer job_answers ∙ is_true _ t;
      beside = λ e. absurd (true≢false (sym e ∙ n));
      none_beside = λ _. refl;
      declined = λ _. (refl, refl, refl);
      not_done = λ _. refl;
      of_write = λ _. refl;
    }

pub demand_1 : Demand1
unfolding job_of ready
demand_1 = record {
  read = λ c register. answered c _ _ (read_stays c register);
  write = λ c register value. answered c _ _ (write-stays c register value);
  event = λ c number argument. answered c _ _ (event-stays c number argument);
  jobs = λ job payload destination out script c.
      let P = JobAnswered job c destination out in
      let no = not-begun job payload c destination out script in
      split P _ _ _ (λ _. no 21 tt refl) (λ _. split P _ _ _ (λ r. worked job payload c destination out script (and_left _ _ r)) (λ _. no 22 tt refl));
}
