-- A job leaves a record its 68 places, whatever its table. Assumes nothing.
use mathlib.Core.List.{List, [], ◌∷◌}
use mathlib.Core.Path.{◌≡◌, ◌∙◌}
use Prim.Native.Nat.{ℕ, zero, suc, ◌+◌}
use lib.Dec.{eqb, ltb}
use lib.ListN.{length}
use Rattle.controller.specs.Event.{event_of}
use Rattle.controller.specs.declared.record.Controller.{Controller}
use Rattle.driver.specs.Run.{Run, Report, closes, breaks, sending, taking, run, reports, declines, job_of}
use Rattle.notation.proofs.Cases.{split}
use Rattle.perlovasta.specs.Job.{request_report}
use Rattle.requests.specs.Jobs.{job_for}
use Rattle.service.specs.Act.{Act, writes, reads_data, reads_all, reads_count, counts, Then, goes_on, awaits, ends, finishes}
use Rattle.service.specs.Act.{put, reads, fetch_one, fetch, read_times, does, does_all, follows, performs}
use Rattle.service.specs.JobSteps.{begins}
use Rattle.service.specs.JobTable.{job_table}
use Rattle.service.specs.Progress.{starting}
use Rattle.service.specs.Serve.{Table, starts, serve}
use Rattle.service.specs.declared.progress.Progress.{Progress}
use Rattle.virtual_chip.proofs.Places.{read-sized, write-sized, event-sized}

-- the record held has its places
abbrev Placed : Progress → Type 0
Placed p = length p.controller.buffer ≡ 68

fetch_placed : (more i : ℕ) (p : Progress) → Placed p → Placed (fetch more i p)
unfolding fetch fetch_one
fetch_placed zero i p s = s
fetch_placed (suc more) i p s = fetch_placed more (i + 1) (fetch_one i p) ((read-sized p.controller 1).places ∙ s)

does_placed : (x : Act) (p : Progress) → Placed p → Placed (does x p)
unfolding does fetch_one put
does_placed (writes register value) p s = (write-sized p.controller register value).places ∙ s
does_placed (reads_data at) p s = (read-sized p.controller 1).places ∙ s
does_placed reads_all p s = fetch_placed (read_times p.count) 0 p s
does_placed reads_count p s = (read-sized p.controller 2).places ∙ s
does_placed (counts count) p s = s

acts_placed : (xs : List Act) (p : Progress) → Placed p → Placed (does_all xs p)
unfolding does_all
acts_placed [] p s = s
acts_placed (x ∷ xs) p s = acts_placed xs (does x p) (does_placed x p s)

follows_placed : (t : Then) (p : Progress) → Placed p → Placed (follows t p)
unfolding follows
follows_placed goes_on p s = s
follows_placed (awaits ending) p s = s
follows_placed (ends ending) p s = s
follows_placed finishes p s = s

serve_placed : (table : Table) (event : ℕ) (p : Progress) → Placed p → Placed (serve table event p)
unfolding serve performs follows
serve_placed table event p s =
    split Placed (eqb event 14) _ _ (λ _. s)
    (λ _. split Placed (eqb event 4) _ _ (λ _. s)
    (λ _. split Placed (eqb (reads p.controller 0) 0xF8) _ _ (λ _. s)
    (λ _. let w = table (reads p.controller 0) p.count in follows_placed w.after _ (acts_placed w.acts p s))))

abbrev Left : Run → Type 0
Left r = length r.result.next.buffer ≡ 68

run_placed : (table : Table) (script : List ℕ) (p : Progress) → Placed p → Left (run table p script)
unfolding run sending taking closes breaks
run_placed table [] p s = s
run_placed table (event ∷ []) p s = s
run_placed table (event ∷ argument ∷ rest) p s =
    let o = event_of p.controller event argument in
    let q = serve table event (taking p o.next) in
    let e = (event-sized p.controller event argument).places ∙ s in
    let served = serve_placed table event (taking p o.next) e in
    split Left (eqb o.refused 0) _ _ (λ _. split Left q.over _ _ (λ _. served) (λ _. run_placed table rest q served)) (λ _. s)

pub request_placed : (c : Controller) (kind address n : ℕ) (payload : List ℕ) (room places : ℕ) (script : List ℕ) → length c.buffer ≡ 68 →
    length (request_report c kind address n payload room places script).result.next.buffer ≡ 68
unfolding request_report job_of declines reports starts starting
request_placed c kind address n payload room places script l =
    let job = job_for kind address n in
    let P : Report → Type 0 = λ r. length r.result.next.buffer ≡ 68 in
    split P (ltb 1 kind) _ _ (λ _. l)
    (λ _. split P _ _ _ (λ _. l)
    (λ _. split P _ _ _ (λ _. run_placed (job_table job payload) script (starts (begins job) c) (acts_placed (begins job) (starting c) l)) (λ _. l)))
