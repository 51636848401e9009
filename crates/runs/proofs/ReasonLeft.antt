-- The reason that a job's end leaves: the status at which the end is noted sets it, and nothing but another end changes it, since the statuses at which a
-- job goes on (08h, 18h, 40h) come from turns in which no byte was sent yet. Assumes nothing.
use mathlib.Core.Bool.{Bool, true, false, true≢false}
use mathlib.Core.List.{List, [], ◌∷◌}
use mathlib.Core.Logic.{⊎_elim}
use mathlib.Core.Path.{◌≡◌, refl, sym, ap, subst, ◌∙◌}
use Prim.Native.Nat.{ℕ, suc}
use native.Mathlib.Omega.{arith}
use borrow.Author.Tests.{eqb-true}
use lib.Dec.{eqb, ltb}
use lib.ListN.{length, take}
use Rattle.answer.specs.Ending.{number_of}
use Rattle.control.proofs.Turning.{status-idle}
use Rattle.control.specs.Reason.{reason_of}
use Rattle.control.specs.Turn.{faults, host, stopping, kind, status_of}
use Rattle.control.specs.declared.reason.Reason.TheVariants.{Reset}
use Rattle.controller.specs.Access.{indirect_at}
use Rattle.controller.specs.Condition.{own_stop}
use Rattle.controller.specs.Event.{event_sound, event_of, bad_argument}
use Rattle.controller.specs.Record.{interrupts, sound}
use Rattle.controller.specs.Reply.{Outcome, refuses, accepts, waits_for}
use Rattle.controller.specs.declared.record.Controller.{Controller}
use Rattle.driver.specs.Run.{Report, Run, closes, breaks, sending, taking, run, reports, declines, job_of}
use Rattle.laws.proofs.Reasons.{reasons_follow}
use Rattle.laws.proofs.Soundness.{event-stays-sound}
use Rattle.laws.proofs.Status.{status-reads}
use Rattle.notation.proofs.Among.{has, among-has, one_of, apart}
use Rattle.notation.proofs.Cases.{when-true, when-false, and_no_left, split}
use Rattle.notation.specs.Choice.{when◌then◌else◌, ◌or◌, among}
use Rattle.runs.proofs.ActsKeep.{fetch-keeps}
use Rattle.runs.proofs.Begins.{begun}
use Rattle.runs.proofs.ComesFrom.{turns_before, event-comes}
use Rattle.runs.proofs.Events.{lasting}
use Rattle.runs.proofs.Invariant.{In, job_turns, early_turns, sent_after, Good}
use Rattle.runs.proofs.Lines.{data_work, job_lines}
use Rattle.runs.specs.ReasonLeft.{end_answers, reason_done, reason_left, LeavesReason}
use Rattle.service.proofs.AnyTable.{acts_leave}
use Rattle.service.proofs.Formed.{Formed, formed}
use Rattle.service.specs.Act.{Work, put, reads, does, does_all, follows, performs}
use Rattle.service.specs.JobSteps.{begins}
use Rattle.service.specs.JobTable.{job_table}
use Rattle.service.specs.Progress.{starting}
use Rattle.service.specs.Serve.{starts, serve}
use Rattle.service.specs.declared.job.Job.{Job}
use Rattle.service.specs.declared.progress.Progress.{Progress}

-- The reason is kept by own STOP, and by a write of another register than 2.
stop_keeps : (c : Controller) (argument : ℕ) → (event_of c 4 argument).next.reason ≡ c.reason
unfolding event_of event_sound own_stop refuses waits_for accepts when◌then◌else◌ ◌or◌
stop_keeps c argument =
    let P : Outcome → Type 0 = λ o. o.next.reason ≡ c.reason in
    split P (bad_argument 4 argument) _ _ (λ _. refl)
    (λ _. split P (sound c) _ _ (λ _. split P (among (kind c.turn) (stopping ∷ [])) _ _ (λ _. refl) (λ _. refl)) (λ _. refl))

put_keeps : (c : Controller) (register value : ℕ) → eqb register 2 ≡ false → (put c register value).reason ≡ c.reason
unfolding put indirect_at
put_keeps c k value e =
    (reasons_follow c).write k value ∙ split (λ r. r ≡ c.reason) _ _ _ (λ _. refl) (λ _. when-false _ _ _ (and_no_left _ _ (and_no_left _ _ e)))

-- where a byte was sent, or is sent now
sent-some : (b : Bool) (sent : ℕ) → (b ≡ false → sent ≡ 0 → ⊥) → ◌≡◌ {A = ℕ} (elim b [ true ↦ suc sent | false ↦ sent ]) 0 → ⊥
sent-some true sent n e = omega (arith, e)
sent-some false sent n e = n refl e

no_end : {A : Type 0} (answer : ℕ) → has end_answers answer ≡ false → among answer end_answers ≡ true → A
no_end answer h e = absurd (true≢false (sym e ∙ among-has answer end_answers ∙ h))

abbrev Left : Job → ℕ → Controller → Type 0
Left job answer c = c.reason ≡ reason_left job.direction answer

-- Once an end is noted, a byte was sent, and the reason is as that end leaves it.
abbrev Noted : Job → ℕ → Progress → Type 0
Noted job sent p = among (number_of p.ending) end_answers ≡ true → (sent ≡ 0 → ⊥) × Left job (number_of p.ending) p.controller

module _ {job : Job} {payload carried : List ℕ} {sent : ℕ} {p : Progress} (g : Good job payload carried sent p) (n : Noted job sent p)
    (number argument : ℕ) (accepted : (event_of p.controller number argument).refused ≡ 0) where
  abbrev next : Controller
  next = (event_of p.controller number argument).next

  -- so it is after the pair; if the job lasts, its turn is one of a job's
  record NotedAfter (q : Progress) : Type 0 where
    noted : (q.over ≡ false → In q job_turns) → among (number_of q.ending) end_answers ≡ true →
        (q.over ≡ false → sent_after number sent ≡ 0 → ⊥) × Left job (number_of q.ending) q.controller

  -- no end was noted; one is noted now; the job is over
  early : (q : Progress) → q.ending ≡ p.ending → In p early_turns → NotedAfter q
  early q k t = record { noted = λ _ e. absurd ((n (subst (λ x. among (number_of x) end_answers ≡ true) k e)).0 (g.early t).1) }

  stops : (q : Progress) → (eqb number 6 ≡ false → sent ≡ 0 → ⊥) → Left job (number_of q.ending) q.controller → NotedAfter q
  stops q l r = record { noted = λ _ _. (λ _. sent-some (eqb number 6) sent l, r) }

  ends : (q : Progress) → q.over ≡ true →
      (among (number_of q.ending) end_answers ≡ true → Left job (number_of q.ending) q.controller) → NotedAfter q
  ends q o r = record { noted = λ _ e. (λ l. absurd (true≢false (sym o ∙ l)), r e) }

  -- what the event makes of the reason
  reason : next.reason ≡ (when eqb number 14 then Reset else when interrupts next then reason_of (status_of next.turn) else p.controller.reason)
  reason = (reasons_follow p.controller).event number argument ∙ when-false _ _ _ (ap (ltb 0) accepted)

  -- a status is given
  module _ (x : eqb number 14 ≡ false) (f : eqb (status_of next.turn) 0xF8 ≡ false) where
    in_host : among (kind next.turn) (host ∷ []) ≡ false → ⊥
    in_host i = true≢false (sym (ap (λ (k : ℕ). eqb k 0xF8) (status-idle next.turn i)) ∙ f)

    at : (k : ℕ) → status_of next.turn ≡ k → In p (turns_before k) × (next.reason ≡ reason_of k)
    at k e =
        let given = reason ∙ when-false _ _ _ x ∙ split (λ r. r ≡ reason_of (status_of next.turn)) _ _ _ (λ _. refl) (λ i. absurd (in_host i)) in
        subst (λ (k : ℕ). In p (turns_before k) × (next.reason ≡ reason_of k)) e ((event-comes g number argument).turn, given)

    -- the work, line by line of the table
    works : (count : ℕ) → NotedAfter (performs (job_table job payload (status_of next.turn) count) (taking p next))
    unfolding job_table performs does_all does follows taking reason_of reason_left among when◌then◌else◌
    works count =
        let s = status_of next.turn in
        let P : Work → Type 0 = λ w. NotedAfter (performs w (taking p next)) in
        let is : (k : ℕ) → eqb s k ≡ true → In p (turns_before k) × (next.reason ≡ reason_of k) = λ k t. at k (eqb-true s k t) in
        split P (eqb s 0x08) _ _ (λ t. early _ refl (is 0x08 t).0)
        (λ _. split P (eqb s 0x18) _ _ (λ t. early _ (acts_leave (data_work (take job.n payload)).acts (taking p next)).ending (is 0x18 t).0)
        (λ _. split P (eqb s 0x40) _ _ (λ t. early _ refl (is 0x40 t).0)
        (λ _. split P (among s (0x20 ∷ 0x48 ∷ [])) _ _ (λ t. stops _ (λ e _. true≢false (sym ((event-comes g number argument).six t) ∙ e))
        (put_keeps _ 3 0x50 refl ∙ ⊎_elim (λ e. (at 0x20 e).1) (λ e. (at 0x48 e).1) (one_of (0x20 ∷ 0x48 ∷ []) s t)))
        (λ _. split P (eqb s 0x28) _ _ (λ t. let u = g.sending (is 0x28 t).0 in
        stops _ (λ _ z. omega (arith, u.3, z)) (put_keeps _ 3 0x50 refl ∙ (is 0x28 t).1 ∙ ap reason_done (sym u.1)))
        (λ _. split P (eqb s 0x30) _ _ (λ t. let u = g.sending (is 0x30 t).0 in stops _ (λ _ z. omega (arith, u.3, z))
        (put_keeps _ 3 0x50 refl ∙ put_keeps _ 0 0 refl ∙ (reasons_follow _).read 2 ∙ put_keeps _ 0 7 refl ∙ (is 0x30 t).1))
        (λ _. split P (eqb s 0x58) _ _ (λ t. let u = g.receiving (is 0x58 t).0 in
        stops _ (λ _ z. omega (arith, u.3, z))
        (put_keeps _ 3 0x50 refl ∙ fetch-keeps (λ c. c.reason) (λ _ _. refl) _ 0 _ ∙ (is 0x58 t).1 ∙ ap reason_done (sym u.1)))
        (λ _. split P (eqb s 0x38) _ _ (λ t. ends _ refl (λ _. put_keeps _ 3 0x40 refl ∙ (is 0x38 t).1))
        (λ _. split P (among s faults) _ _
        (λ t. ends _ refl (λ _. ⊎_elim (λ e. (at 0x00 e).1) (⊎_elim (λ e. (at 0x70 e).1) (λ e. (at 0x78 e).1)) (one_of faults s t)))
        (λ _. record { noted = λ h. absurd (in_host (apart (kind next.turn) job_turns (host ∷ []) tt (h g.whole.lasts))) })))))))))

  -- after a pair
  serves : NotedAfter (serve (job_table job payload) number (taking p next))
  unfolding serve follows reads taking reason_left among when◌then◌else◌
  serves =
      let e = status-reads next (event-stays-sound p.controller number argument g.whole.sound) in
      split NotedAfter (eqb number 14) _ _ (λ x. ends _ refl (λ _. reason ∙ when-true _ _ _ x))
      (λ x. split NotedAfter (eqb number 4) _ _ (λ y. ends _ refl (λ e.
      ap (λ (k : ℕ). (event_of p.controller k argument).next.reason) (eqb-true number 4 y) ∙ stop_keeps p.controller argument ∙ (n e).1))
      (λ _. split NotedAfter (eqb (reads next 0) 0xF8) _ _
      (λ _. record {
        noted = λ h e. let quiet = apart (kind next.turn) job_turns (host ∷ []) tt (h g.whole.lasts) in
            (λ _. sent-some (eqb number 6) sent (λ _. (n e).0), reason ∙ when-false _ _ _ x ∙ when-false (interrupts next) _ _ quiet ∙ (n e).1);
      })
      (λ f. subst (λ (status : ℕ). NotedAfter (performs (job_table job payload status p.count) (taking p next))) (sym e)
      (works x (ap (λ (status : ℕ). eqb status 0xF8) (sym e) ∙ f) p.count))))

module _ {room places : ℕ} {job : Job} (payload : List ℕ) (form : Formed job (length payload) room places) where
  left-run : (script : List ℕ) {carried : List ℕ} {sent : ℕ} {p : Progress} → Good job payload carried sent p → Noted job sent p →
      let r = (run (job_table job payload) p script).result in among r.answer end_answers ≡ true → Left job r.answer r.next
  unfolding run breaks sending closes
  left-run [] g n = no_end 27 refl
  left-run (event ∷ []) g n = no_end 27 refl
  left-run (event ∷ argument ∷ rest) {carried} {sent} {p} g n =
      let q = serve (job_table job payload) event (taking p (event_of p.controller event argument).next) in
      let P : Run → Type 0 = λ r. among r.result.answer end_answers ≡ true → Left job r.result.answer r.result.next in
      split P (eqb (event_of p.controller event argument).refused 0) _ _
      (λ a. let good = lasting (job_table job payload) payload form (job_lines job payload) g event argument a in
      let noted = (serves g n event argument (eqb-true _ _ a)).noted (λ l. (good l).turn) in
      split P q.over (closes q) (run (job_table job payload) q rest) (λ _ e. (noted e).1) (λ l. left-run rest (good l) (λ e. ((noted e).0 l, (noted e).1))))
      (λ _. no_end 28 refl)

pub leaves-reason : LeavesReason
unfolding job_of declines reports starts starting
leaves-reason job payload room places script c l =
    let P : Report → Type 0 = λ r. among r.result.answer end_answers ≡ true → Left job r.result.answer r.result.next in
    split P _ _ _ (λ _. no_end 21 refl)
    (λ m. split P _ _ _
    (λ r. left-run payload (formed job (length payload) room places (length script) m) script (begun job payload c r l)
    (λ e. no_end 27 refl (subst (λ x. among (number_of x) end_answers ≡ true) (acts_leave (begins job) (starting c)).ending e)))
    (λ _. no_end 22 refl))
