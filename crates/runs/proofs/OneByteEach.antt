-- A job sends one byte for each event 6 that it used: "the bytes sent, one for each accepted event 6". Assumes nothing.
use mathlib.Core.Bool.{Bool, true, false}
use mathlib.Core.List.{List, [], ◌∷◌}
use mathlib.Core.Path.{◌≡◌, refl, sym, ap, subst, ◌∙◌}
use Prim.Native.Nat.{ℕ, suc, ◌+◌}
use native.Mathlib.Omega.{arith}
use lib.Dec.{eqb}
use lib.ListN.{length}
use Rattle.controller.specs.Event.{event_of}
use Rattle.controller.specs.declared.record.Controller.{Controller}
use Rattle.driver.specs.Run.{Report, Run, closes, breaks, sending, taking, run, reports, declines, job_of}
use Rattle.notation.proofs.Cases.{split}
use Rattle.notation.specs.Choice.{when◌then◌else◌}
use Rattle.runs.specs.OneRun.{sent_count, OneByteEach}
use Rattle.service.proofs.AnyTable.{serve-events}
use Rattle.service.specs.Act.{Act, does, does_all}
use Rattle.service.specs.JobSteps.{begins}
use Rattle.service.specs.JobTable.{job_table}
use Rattle.service.specs.Progress.{starting}
use Rattle.service.specs.Serve.{Table, starts, serve}
use Rattle.service.specs.declared.job.Job.{Job}
use Rattle.service.specs.declared.progress.Progress.{Progress}

-- After n events: the run uses some pairs more of the script, and sends a byte for each event 6 among them.
record Sends (n : ℕ) (script : List ℕ) (r : Run) : Type 0 where
  used : ℕ
  events : r.result.events ≡ n + used
  sent : length r.sent ≡ sent_count used script

broken : (p : Progress) (script : List ℕ) (answer refused : ℕ) → Sends p.events script (breaks p answer refused)
unfolding breaks sent_count
broken p script answer refused = record { used = 0; events = omega arith; sent = refl }

closed : (p : Progress) (script : List ℕ) → Sends p.events script (closes p)
unfolding closes sent_count
closed p script = record { used = 0; events = omega arith; sent = refl }

one_byte : (event value : ℕ) (rest bytes : List ℕ) (k : ℕ) → length bytes ≡ sent_count k rest → (b : Bool) →
    length (when b then value ∷ bytes else bytes) ≡ (when b then sent_count k rest + 1 else sent_count k rest)
unfolding when◌then◌else◌
one_byte event value rest bytes k e true = omega (arith, e)
one_byte event value rest bytes k e false = e

passed : (n event argument value : ℕ) (rest : List ℕ) (r : Run) → Sends (n + 1) rest r → Sends n (event ∷ argument ∷ rest) (sending event value r)
unfolding sending sent_count
passed n event argument value rest r s = record {
  used = suc s.used;
  events = omega (arith, s.events);
  sent = one_byte event value rest r.sent s.used s.sent (eqb event 6);
}

-- a pair that was served
served : (table : Table) (event : ℕ) (p : Progress) (c : Controller) (rest : List ℕ) (r : Run) →
    Sends (serve table event (taking p c)).events rest r → Sends (p.events + 1) rest r
unfolding taking
served table event p c rest r s = subst (λ (n : ℕ). Sends n rest r) (serve-events table event (taking p c)) s

runs : (table : Table) (p : Progress) (script : List ℕ) → Sends p.events script (run table p script)
unfolding run
runs table p [] = broken p [] 27 0
runs table p (event ∷ []) = broken p (event ∷ []) 27 0
runs table p (event ∷ argument ∷ rest) =
    let o = event_of p.controller event argument in
    let q = serve table event (taking p o.next) in
    split (Sends p.events (event ∷ argument ∷ rest)) (eqb o.refused 0) _ _
    (λ _. passed p.events event argument o.value rest _
    (served table event p o.next rest _
    (split (Sends q.events rest) q.over (closes q) (run table q rest) (λ _. closed q rest) (λ _. runs table q rest))))
    (λ _. broken p (event ∷ argument ∷ rest) 28 o.refused)

abbrev Each : List ℕ → Report → Type 0
Each script r = length r.sent ≡ sent_count r.result.events script

declined : (c : Controller) (answer : ℕ) (script : List ℕ) → Each script (declines c answer)
unfolding declines sent_count
declined c answer script = refl

worked : (table : Table) (acts : List Act) (job : Job) (script : List ℕ) (c : Controller) →
    (starts acts c).events ≡ 0 → Each script (reports job (run table (starts acts c) script))
unfolding reports
worked table acts job script c z =
    let s = runs table (starts acts c) script in
    let n = s.events in
    let e : (run table (starts acts c) script).result.events ≡ s.used = omega (arith, n, z) in
    s.sent ∙ ap (λ (n : ℕ). sent_count n script) (sym e)

pub one-byte-each : OneByteEach
unfolding job_of starts starting does_all does
one-byte-each job payload room places script c =
    let P = Each script in
    split P _ _ _ (λ _. declined c 21 script)
    (λ _. split P _ _ _ (λ _. worked (job_table job payload) (begins job) job script c refl) (λ _. declined c 22 script))
