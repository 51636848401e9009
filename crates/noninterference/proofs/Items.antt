-- One item of the list, given to two records that are alike but for their places: both answer the same, and a finished read hands up what the bus carried.
use mathlib.Core.Bool.{Bool, true, false, true≢false, false≢true}
use mathlib.Core.List.{List, [], ◌∷◌}
use mathlib.Core.Path.{◌≡◌, refl, sym, ap, subst, ◌∙◌}
use Prim.Native.Nat.{ℕ, suc, ◌≤◌}
use native.Mathlib.Omega.{arith}
use borrow.Author.Tests.{eqb-true, eq-eqb}
use lib.Dec.{eqb}
use lib.ListN.{length, take}
use lib.Seq.{length-take-le}
use Rattle.address.specs.Number.{bit_of}
use Rattle.address.specs.declared.number.Direction.TheVariants.{Read}
use Rattle.address.specs.declared.number.Direction.{Direction}
use Rattle.controller.specs.Access.{write_of}
use Rattle.controller.specs.Event.{event_of}
use Rattle.controller.specs.Record.{sound, move_sound}
use Rattle.controller.specs.Reply.{Outcome}
use Rattle.controller.specs.declared.record.Controller.{Controller}
use Rattle.driver.specs.Run.{Run, Report, run, hands_up, reports, declines, job_of}
use Rattle.noninterference.proofs.Blind.{Blind}
use Rattle.noninterference.proofs.Twin.{Twin, flip, write-alike, event-alike, twins, starts-same}
use Rattle.noninterference.proofs.TwoJobs.{job-same}
use Rattle.noninterference.proofs.TwoRuns.{RunSame}
use Rattle.noninterference.specs.OldBytes.{GivenJob, Item, run_job, reset_pin, indptr, register2, i2ccon, anothers_start, anothers_stop, anothers_address, answered, Step, of_access, of_job, report_of, step, HandsUpCarried}
use Rattle.notation.proofs.Among.{among-has}
use Rattle.notation.proofs.Cases.{when-true, when-false, and-true, and_left, and_right, split}
use Rattle.notation.specs.Choice.{when◌then◌else◌, ◌and◌, among}
use Rattle.runs.proofs.Begins.{begun}
use Rattle.runs.proofs.Facts.{Facts, facts}
use Rattle.runs.proofs.Fits.{read-bit}
use Rattle.runs.proofs.Lines.{job_lines}
use Rattle.service.proofs.Formed.{Formed, formed}
use Rattle.service.specs.JobSteps.{begins}
use Rattle.service.specs.JobTable.{job_table}
use Rattle.service.specs.Request.{malformed, ready}
use Rattle.service.specs.Serve.{Table, starts}
use Rattle.service.specs.declared.job.Job.{Job}

-- whether the controller is ready for a job does not depend on its buffer
ready-same : (c c' : Controller) → Twin c c' → ready c ≡ ready c'
unfolding ready sound move_sound
ready-same c c' t = ap (λ (d : Controller). ready d) t.rest

handed-same : (job : Job) (answer answer' : ℕ) (xs xs' : List ℕ) → answer ≡ answer' →
    (answer ≡ 0 → job.direction ≡ Read → take job.n xs ≡ take job.n xs') → hands_up job answer xs ≡ hands_up job answer' xs'
unfolding hands_up
handed-same job answer answer' xs xs' e f =
    go (eqb answer 0 and eqb (bit_of job.direction) 1) refl ∙ ap (λ (a : ℕ). hands_up job a xs') e
  where
    go : (b : Bool) → (eqb answer 0 and eqb (bit_of job.direction) 1) ≡ b → hands_up job answer xs ≡ hands_up job answer xs'
    go true h = when-true _ _ _ h ∙ f (eqb-true answer 0 (and_left _ _ h)) (read-bit job.direction (and_right _ _ h)) ∙ sym (when-true _ _ _ h)
    go false h = when-false _ _ _ h ∙ sym (when-false _ _ _ h)

hands_up_lem : (job : Job) (answer : ℕ) (xs : List ℕ) → answer ≡ 0 → job.direction ≡ Read → hands_up job answer xs ≡ take job.n xs
unfolding hands_up bit_of
hands_up_lem job answer xs e r = when-true _ _ _ (and-true _ _ (eq-eqb answer 0 e) (ap (λ (d : Direction). eqb (bit_of d) 1) r))

-- What two reports have in common.
pub record ReportSame (r r' : Report) : Type 0 where
  pub twin : Twin r.result.next r'.result.next
  pub seen : (of_job r).seen ≡ (of_job r').seen

declines-same : (c c' : Controller) (answer : ℕ) → Twin c c' → ReportSame (declines c answer) (declines c' answer)
unfolding declines
declines-same c c' answer t = record { twin = t; seen = refl }

-- a report's six parts that are compared
seen_same : (r r' : Report) → r.result.answer ≡ r'.result.answer → r.result.refused ≡ r'.result.refused →
    r.result.count ≡ r'.result.count → r.result.events ≡ r'.result.events → r.sent ≡ r'.sent →
    r.handed ≡ r'.handed → (of_job r).seen ≡ (of_job r').seen
seen_same r r' a b c d e f = simp (a, b, c, d, e, f)

reports-same : (job : Job) (r r' : Run) → RunSame r r' →
    (r.result.answer ≡ 0 → job.direction ≡ Read → take job.n r.fetched ≡ take job.n r'.fetched) →
    ReportSame (reports job r) (reports job r')
unfolding reports
reports-same job r r' s f =
    record {
      twin = s.twin;
      seen = seen_same (reports job r) (reports job r') s.answer s.refused s.count s.events s.sent (handed-same job _ _ _ _ s.answer f);
    }

-- a job that begins
module _ (q : GivenJob) (m : malformed q.job (length q.payload) q.destination_length q.out_length (length q.script) ≡ false) where
  abbrev table : Table
  table = job_table q.job q.payload

  abbrev runs : Controller → Run
  runs c = run table (starts (begins q.job) c) q.script

  form : Formed q.job (length q.payload) q.destination_length q.out_length
  form = formed q.job (length q.payload) q.destination_length q.out_length (length q.script) m

  run_carries_back : (c : Controller) → ready c ≡ true → length c.buffer ≡ 68 → Facts q.job [] 0 q.script (runs c)
  run_carries_back c r l = facts q.job q.payload q.script q.destination_length q.out_length c m r l

  run-alike : (c c' : Controller) → Twin c c' → ready c ≡ true → ready c' ≡ true →
      ReportSame (reports q.job (runs c)) (reports q.job (runs c'))
  run-alike c c' t r r' =
      let g = begun q.job q.payload c r t.places in
      let g' = begun q.job q.payload c' r' t.places' in
      let s = job-same table q.payload form (job_lines q.job q.payload) q.script _ _ g g' (starts-same (begins q.job) c c' t) in
      let f = run_carries_back c r t.places in
      let f' = run_carries_back c' r' t.places' in
      reports-same q.job _ _ s (λ z d. (f.carry z d).0 ∙ sym (f'.carry (sym s.answer ∙ z) d).0)

  run_carries : (c : Controller) → ready c ≡ true → length c.buffer ≡ 68 → HandsUpCarried q (reports q.job (runs c))
  unfolding reports
  run_carries c r l z d =
      let f = (run_carries_back c r l).carry z d in
      let h = hands_up_lem q.job _ (runs c).fetched z d in
      let n = form.high in
      (h ∙ f.0, ap length h ∙ length-take-le q.job.n (runs c).fetched (subst (λ (k : ℕ). q.job.n ≤ k) (sym f.1) n))

same_if : (b b' : Bool) (x x' y y' : Report) → b ≡ b' → (b ≡ true → ReportSame x x') → (b ≡ false → ReportSame y y') →
    ReportSame (when b then x else y) (when b' then x' else y')
unfolding when◌then◌else◌
same_if true true x x' y y' e f g = f refl
same_if true false x x' y y' e f g = absurd (true≢false e)
same_if false true x x' y y' e f g = absurd (false≢true e)
same_if false false x x' y y' e f g = g refl

-- A job: the same report on both sides, and what it hands up was carried.
pub request_same : (q : GivenJob) (c c' : Controller) → Twin c c' → ReportSame (report_of q c) (report_of q c')
unfolding job_of
request_same q c c' t =
    same_if _ _ _ _ _ _ refl (λ _. declines-same c c' 21 t)
    (λ m. same_if _ _ _ _ _ _ (ready-same c c' t) (λ r. run-alike q m c c' t r (sym (ready-same c c' t) ∙ r)) (λ _. declines-same c c' 22 t))

declined : (q : GivenJob) (c : Controller) (k : ℕ) → HandsUpCarried q (declines c (suc k))
unfolding declines
declined q c k z = absurd (never z)
  where
    never : ◌≡◌ {A = ℕ} (suc k) 0 → ⊥
    never e = omega (arith, e)

pub job_carries : (q : GivenJob) (c : Controller) → length c.buffer ≡ 68 → HandsUpCarried q (report_of q c)
unfolding job_of
job_carries q c l =
    split (HandsUpCarried q) _ _ _ (λ _. declined q c 20) (λ m. split (HandsUpCarried q) _ _ _ (λ r. run_carries q m c r l) (λ _. declined q c 21))

-- What one item does to twins.
pub record StepSame (s s' : Step) : Type 0 where
  pub twin : Twin s.next s'.next
  pub seen : s.seen ≡ s'.seen

access-same : (c c' : Controller) (o o' : Outcome) → Twin c c' → Blind c o o' → Blind c' o' o → StepSame (of_access o) (of_access o')
access-same c c' o o' t e e' =
    let seen = ap (λ (r : ℕ). answered r o.value) e.refused ∙ ap (λ (v : ℕ). answered o'.refused v) e.value in
    record { twin = twins o o' t e e'; seen = seen }

write_same : (c c' : Controller) (register value : ℕ) → Twin c c' →
    StepSame (of_access (write_of c register value)) (of_access (write_of c' register value))
write_same c c' register value t =
    access-same c c' _ _ t (write-alike c c' register value t) (write-alike c' c register value (flip t))

-- an event that reads no byte
event-same : (c c' : Controller) (number argument : ℕ) → among number (6 ∷ 8 ∷ []) ≡ false → Twin c c' →
    StepSame (of_access (event_of c number argument)) (of_access (event_of c' number argument))
event-same c c' number argument n t =
    access-same c c' _ _ t (event-alike c c' number argument t (λ e. absurd (true≢false (sym e ∙ n))))
    (event-alike c' c number argument (flip t) (λ e. absurd (true≢false (sym e ∙ n))))

pub step_same : (i : Item) (c c' : Controller) → Twin c c' → StepSame (step i c) (step i c')
step_same (run_job q) c c' t = let s = request_same q c c' t in record { twin = s.twin; seen = s.seen }
step_same (reset_pin argument) c c' t = event-same c c' 14 argument (among-has 14 (6 ∷ 8 ∷ [])) t
step_same (indptr value) c c' t = write_same c c' 0 value t
step_same (register2 value) c c' t = write_same c c' 2 value t
step_same (i2ccon value) c c' t = write_same c c' 3 value t
step_same (anothers_start argument) c c' t = event-same c c' 2 argument (among-has 2 (6 ∷ 8 ∷ [])) t
step_same (anothers_stop argument) c c' t = event-same c c' 3 argument (among-has 3 (6 ∷ 8 ∷ [])) t
step_same (anothers_address byte) c c' t = event-same c c' 5 byte (among-has 5 (6 ∷ 8 ∷ [])) t
