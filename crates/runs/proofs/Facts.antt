-- A whole run: what a finished read has read back, and how many bytes are sent. Assumes nothing.
use mathlib.Core.Bool.{Bool, true, false}
use mathlib.Core.List.{List, [], ◌∷◌, ◌++◌, append-nil}
use mathlib.Core.Path.{◌≡◌, refl, sym, ap, subst, ◌∙◌}
use Prim.Native.Nat.{ℕ, suc, ◌+◌, ◌≤◌}
use native.Mathlib.Omega.{arith}
use lib.Dec.{eqb}
use lib.ListN.{length, take}
use lib.Seq.{append_snoc}
use Rattle.address.specs.declared.number.Direction.TheVariants.{Read}
use Rattle.controller.specs.declared.record.Controller.{Controller}
use Rattle.driver.specs.Run.{Run, closes, breaks, sending, run}
use Rattle.notation.proofs.Cases.{when-true, when-false, split}
use Rattle.notation.specs.Choice.{when◌then◌else◌}
use Rattle.runs.proofs.Begins.{begun}
use Rattle.runs.proofs.Events.{stepped}
use Rattle.runs.proofs.Invariant.{limit, carried_after, sent_after, Good, Finished, Stepped, ended, going}
use Rattle.runs.proofs.Lines.{JobLines, job_lines}
use Rattle.runs.specs.OneRun.{carried}
use Rattle.service.proofs.Formed.{Formed, formed}
use Rattle.service.specs.JobSteps.{begins}
use Rattle.service.specs.JobTable.{job_table}
use Rattle.service.specs.Request.{malformed, ready}
use Rattle.service.specs.Serve.{Table, starts}
use Rattle.service.specs.declared.job.Job.{Job}
use Rattle.service.specs.declared.progress.Progress.{Progress}

-- one byte more was sent, or not
sizes : (b : Bool) (sent value : ℕ) (later : List ℕ) →
    sent + length (when b then value ∷ later else later) ≡ elim b [ true ↦ suc sent | false ↦ sent ] + length later
unfolding when◌then◌else◌
sizes true sent value later = omega arith
sizes false sent value later = refl

-- one byte more was carried, or not
carries_on : (b : Bool) (before : List ℕ) (argument : ℕ) (later : List ℕ) →
    elim b [ true ↦ before ++ (argument ∷ []) | false ↦ before ] ++ later ≡ before ++ (when b then argument ∷ later else later)
unfolding when◌then◌else◌
carries_on true before argument later = append_snoc before argument later
carries_on false before argument later = refl

-- the first event 4 ends what counts as carried
carried_stop : (event argument : ℕ) (rest : List ℕ) → eqb event 4 ≡ true → carried (event ∷ argument ∷ rest) ≡ []
unfolding carried
carried_stop event argument rest e = when-true _ _ _ e

carried_on : (event argument : ℕ) (rest : List ℕ) → eqb event 4 ≡ false →
    carried (event ∷ argument ∷ rest) ≡ (when eqb event 7 then argument ∷ carried rest else carried rest)
unfolding carried
carried_on event argument rest e = when-false _ _ _ e

-- What holds of a run from here on: so many bytes were sent and these carried before.
pub record Facts (job : Job) (before : List ℕ) (sent : ℕ) (script : List ℕ) (r : Run) : Type 0 where
  pub carry : r.result.answer ≡ 0 → job.direction ≡ Read →
      (take job.n r.fetched ≡ before ++ carried script) × (length r.fetched ≡ 68)
  pub fits : sent + length r.sent ≤ limit job.direction job.n

module _ (job : Job) where
  broke : (before : List ℕ) (sent : ℕ) (script : List ℕ) (p : Progress) (k refused : ℕ) → sent ≤ limit job.direction job.n →
      Facts job before sent script (breaks p (suc k) refused)
  unfolding breaks
  broke before sent script p k refused h = record { carry = λ e. absurd (never k e); fits = omega (arith, h) }
    where
      never : (k : ℕ) → ◌≡◌ {A = ℕ} (suc k) 0 → ⊥
      never k e = omega (arith, e)

  -- the job is over after a pair
  over-facts : (payload before : List ℕ) (sent event argument : ℕ) (rest : List ℕ) (value : ℕ) (q : Progress) →
      Finished job payload before event q → sent_after event sent ≤ limit job.direction job.n →
      Facts job before sent (event ∷ argument ∷ rest) (sending event value (closes q))
  unfolding sending closes
  over-facts payload before sent event argument rest value q c b =
      let size = sizes (eqb event 6) sent value [] in
      let none : eqb event 4 ≡ true → before ≡ before ++ carried (event ∷ argument ∷ rest) =
      λ e. sym (append-nil before) ∙ ap (λ (l : List ℕ). before ++ l) (sym (carried_stop event argument rest e)) in
      record { carry = λ z r. let f = c z r in (f.1 ∙ none f.0, f.2); fits = omega (arith, size, b) }

  -- the job goes on after a pair
  on-facts : (before : List ℕ) (sent event argument : ℕ) (rest : List ℕ) (value : ℕ) (r : Run) → eqb event 4 ≡ false →
      Facts job (carried_after event argument before) (sent_after event sent) rest r →
      Facts job before sent (event ∷ argument ∷ rest) (sending event value r)
  unfolding sending
  on-facts before sent event argument rest value r k f =
      let size = sizes (eqb event 6) sent value r.sent in
      let more = carries_on (eqb event 7) before argument (carried rest)
      ∙ ap (λ (l : List ℕ). before ++ l) (sym (carried_on event argument rest k)) in
      record {
        carry = λ z d. let x = f.carry z d in (x.0 ∙ more, x.1);
        fits = subst (λ (m : ℕ). m ≤ limit job.direction job.n) (sym size) f.fits;
      }

module _ (table : Table) {room places : ℕ} {job : Job} (payload : List ℕ) (form : Formed job (length payload) room places)
    (lines : JobLines table job payload) where
  -- a pair that was taken, with what the rest of the script gives
  taken : (before : List ℕ) (sent event argument : ℕ) (rest : List ℕ) (value : ℕ) (q : Progress) →
      Stepped job payload before sent event argument q →
      ((before' : List ℕ) (sent' : ℕ) → Good job payload before' sent' q → Facts job before' sent' rest (run table q rest)) →
      Facts job before sent (event ∷ argument ∷ rest) (sending event value (when q.over then closes q else run table q rest))
  taken before sent event argument rest value q (ended o c b) later =
      subst (λ (r : Run). Facts job before sent (event ∷ argument ∷ rest) (sending event value r)) (sym (when-true q.over _ _ o))
      (over-facts job payload before sent event argument rest value q c b)
  taken before sent event argument rest value q (going k g) later =
      subst (λ (r : Run). Facts job before sent (event ∷ argument ∷ rest) (sending event value r))
      (sym (when-false q.over _ _ g.whole.lasts)) (on-facts job before sent event argument rest value _ k (later _ _ g))

  run-facts : (script : List ℕ) (before : List ℕ) (sent : ℕ) (p : Progress) → Good job payload before sent p →
      Facts job before sent script (run table p script)
  unfolding run
  run-facts [] before sent p g = broke job before sent [] p 26 0 g.bound
  run-facts (event ∷ []) before sent p g = broke job before sent (event ∷ []) p 26 0 g.bound
  run-facts (event ∷ argument ∷ rest) before sent p g =
      split (Facts job before sent (event ∷ argument ∷ rest)) _ _ _
      (λ e. taken before sent event argument rest _ _ (stepped table payload form lines g event argument e)
      (λ before' sent' h. run-facts rest before' sent' _ h))
      (λ e. broke job before sent (event ∷ argument ∷ rest) p 27 _ g.bound)

-- Every job that begins: a finished read has read back what the bus carried, and no more bytes are sent than the limit.
pub facts : (job : Job) (payload script : List ℕ) (room places : ℕ) (c : Controller) →
    malformed job (length payload) room places (length script) ≡ false → ready c ≡ true → length c.buffer ≡ 68 →
    Facts job [] 0 script (run (job_table job payload) (starts (begins job) c) script)
facts job payload script room places c m r l =
    let form = formed job (length payload) room places (length script) m in
    run-facts (job_table job payload) payload form (job_lines job payload) script [] 0 _ (begun job payload c r l)
