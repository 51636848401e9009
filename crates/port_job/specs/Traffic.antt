-- Where the port begins a job in Busy or Listen, another master has the bus, and it waits for it as if that master's traffic were the first pairs of the
-- script. The proofs are in proofs/Traffic.antt, AmidTraffic.antt and QuietBetween.antt.
use Rattle.std.specs.Prelude.{true, false, List, [], ◌∷◌, ◌++◌, ◌≡◌, ℕ, ◌+◌, ◌%◌, eqb, length}
use Rattle.controller.specs.Event.{event_of}
use Rattle.controller.specs.Record.{sound}
use Rattle.controller.specs.declared.record.Controller.{Controller}
use Rattle.driver.specs.Run.{Result, Run, run, Report, job_of}
use Rattle.notation.specs.Choice.{among}
use Rattle.port.specs.Begin.{unfit, unsettled, bad_settings}
use Rattle.port.specs.Port.{Port}
use Rattle.port_job.specs.Items.{Item, recovery, leaves, looks_ready}
use Rattle.port_job.specs.OnModel.{At, at, played, reported}
use Rattle.service.specs.JobSteps.{begins}
use Rattle.service.specs.JobTable.{job_table}
use Rattle.service.specs.Request.{ready}
use Rattle.service.specs.Serve.{starts}
use Rattle.service.specs.declared.job.Job.{Job}

-- pairs of another's START or STOP, an address byte or an illegal edge, each accepted
abbrev pub OthersTraffic : List ℕ → Controller → Type 0
OthersTraffic [] c = Unit {0}
OthersTraffic (event ∷ []) c = ⊥
OthersTraffic (event ∷ argument ∷ rest) c =
    (among event (2 ∷ 3 ∷ 5 ∷ 10 ∷ []) ≡ true) × ((event_of c event argument).refused ≡ 0) × OthersTraffic rest (event_of c event argument).next

-- the record after them, and how many they are
unfoldable pub after_pairs : List ℕ → Controller → Controller
after_pairs [] c = c
after_pairs (event ∷ []) c = c
after_pairs (event ∷ argument ∷ rest) c = after_pairs rest (event_of c event argument).next

unfoldable pub pairs : List ℕ → ℕ
pairs [] = 0
pairs (event ∷ []) = 0
pairs (event ∷ argument ∷ rest) = pairs rest + 1

-- the same result, with so many pairs taken before it
abbrev pub later_result : ℕ → Result → Result
later_result k r = record { next = r.next; answer = r.answer; refused = r.refused; count = r.count; events = r.events + k }

-- so a run, and so a report
unfoldable pub later : ℕ → Run → Run
later k r = record { result = later_result k r.result; fetched = r.fetched; sent = r.sent }

unfoldable pub later_report : ℕ → Report → Report
later_report k r = record { result = later_result k r.result; sent = r.sent; handed = r.handed }

-- begun before the traffic, or after it: the same (AA is 0 between jobs: `QuietBetween`)
abbrev pub TrafficFirst : Type 0
TrafficFirst = (job : Job) (payload traffic script : List ℕ) (c : Controller) → ready c ≡ true → c.control.aa ≡ false → OthersTraffic traffic c →
    run (job_table job payload) (starts (begins job) c) (traffic ++ script) ≡
    later (pairs traffic) (run (job_table job payload) (starts (begins job) (after_pairs traffic c)) script)

-- So it is with the port: amid the traffic it takes the chip for ready, and gives what the job gives that begins before the traffic.
abbrev pub AmidTraffic : Type 0
AmidTraffic = (asked : Job) (payload traffic script : List ℕ) (p : Port) (c : Controller) → unsettled p.stand ≡ false →
    unfit asked (length payload) ≡ false → eqb (length script % 2) 1 ≡ false → ready c ≡ true → c.control.aa ≡ false → c.control.sto ≡ false →
    length c.buffer ≡ 68 → OthersTraffic traffic c →
    (looks_ready (after_pairs traffic c) ≡ true) ×
    (later_report (pairs traffic) (reported (played asked payload script (at p (after_pairs traffic c)))) ≡
    job_of asked payload 68 69 (traffic ++ script) c)

-- AA is 0 after each on the list
abbrev pub QuietAfter : List Item → At → Type 0
QuietAfter [] s = Unit {0}
QuietAfter (x ∷ xs) s = ((leaves x s).chip.control.aa ≡ false) × QuietAfter xs (leaves x s)

-- from a recovery on
abbrev pub QuietBetween : Type 0
QuietBetween = (settings : List ℕ) (items : List Item) (s : At) → sound s.chip ≡ true → length s.chip.buffer ≡ 68 →
    bad_settings settings ≡ false → QuietAfter (recovery settings ∷ items) s
