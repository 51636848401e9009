-- Document 01, Jobs: the run over the script's pairs, and what the job gives.
use Rattle.std.specs.Prelude.{List, [], ◌∷◌, ℕ, ◌+◌, eqb, length, take}
use Rattle.address.specs.Number.{bit_of}
use Rattle.controller.specs.Event.{event_of}
use Rattle.controller.specs.declared.record.Controller.{Controller}
use Rattle.answer.specs.Ending.{number_of, beside_of}
use Rattle.answer.specs.declared.ending.Ending.{Ending}
use Rattle.driver.specs.declared.result.JobResult.{JobResult}
use Rattle.notation.specs.Choice.{when◌then◌else◌, ◌and◌}
use Rattle.service.specs.JobSteps.{begins}
use Rattle.service.specs.JobTable.{job_table}
use Rattle.service.specs.Progress.{with_record, with_events}
use Rattle.service.specs.Request.{malformed, ready}
use Rattle.service.specs.Serve.{Table, starts, serve}
use Rattle.service.specs.declared.job.Job.{Job}
use Rattle.service.specs.declared.progress.Progress.{Progress}

-- What a job answers, in the paper's numbers: the record, the answer, the number beside it, the count and the events used.
-- (How many bytes were sent is promised beside it: the length of `sent` below.)
pub record Result : Type 0 where
  pub next : Controller
  pub answer : ℕ
  pub refused : ℕ
  pub count : ℕ
  pub events : ℕ

abbrev pub answering : Controller → Ending → ℕ → ℕ → Result
answering c ending count events = record {
  next = c;
  answer = number_of ending;
  refused = beside_of ending;
  count = count;
  events = events;
}

unfoldable pub result_of : JobResult → Result
result_of r = answering r.controller r.ending r.count r.events

-- What a run over pairs gives: the result, the bytes read back, and the bytes sent from here on.
pub record Run : Type 0 where
  pub result : Result
  pub fetched : List ℕ
  pub sent : List ℕ

-- a job that is over
unfoldable pub closes : Progress → Run
closes p = record { result = answering p.controller p.ending p.count p.events; fetched = p.fetched; sent = [] }

-- 27, "script ended first; record as reached", and 28, "its number beside it .., record as before that event": count 0
unfoldable pub breaks : Progress → ℕ → ℕ → Run
breaks p answer refused = record {
  result = record { next = p.controller; answer = answer; refused = refused; count = 0; events = p.events };
  fetched = p.fetched;
  sent = [];
}

-- "the bytes sent, one for each accepted event 6": this one, and those of the rest of the run
unfoldable pub sending : ℕ → ℕ → Run → Run
sending event value r = record {
  result = r.result;
  fetched = r.fetched;
  sent = when eqb event 6 then value ∷ r.sent else r.sent;
}

-- a pair is taken: the record after the event, and one event more used
unfoldable pub taking : Progress → Controller → Progress
taking p c = with_events (with_record p c) (p.events + 1)

-- "After each pair it does this work first, then looks for the next pair or the script's end. It takes pairs while the job lasts; later
-- pairs aren't looked at." (A single byte left over is no pair; such a script is answered 21 before.)
unfoldable pub run : Table → Progress → List ℕ → Run
run table p [] = breaks p 27 0
run table p (event ∷ []) = breaks p 27 0
run table p (event ∷ argument ∷ rest) =
    let o = event_of p.controller event argument in
    let q = serve table event (taking p o.next) in
    when eqb o.refused 0
    then sending event o.value (when q.over then closes q else run table q rest)
    else breaks p 28 o.refused

-- What a job gives: its result, "bytes sent and bytes handed up, both in order".
pub record Report : Type 0 where
  pub result : Result
  pub sent : List ℕ
  pub handed : List ℕ

-- Handed up (document 01's term): "the destination's first n bytes for answer 0 of a read, else none". (R is 1 for a read.)
unfoldable pub hands_up : Job → ℕ → List ℕ → List ℕ
hands_up job answer fetched = when eqb answer 0 and eqb (bit_of job.direction) 1 then take job.n fetched else []

unfoldable pub reports : Job → Run → Report
reports job r = record { result = r.result; sent = r.sent; handed = hands_up job r.result.answer r.fetched }

-- 21 and 22: "both leave everything as it was"
unfoldable pub declines : Controller → ℕ → Report
declines c answer = record {
  result = record { next = c; answer = answer; refused = 0; count = 0; events = 0 };
  sent = [];
  handed = [];
}

-- A job: kind, address and n; the data; the lengths of destination and out record; the script. "21 comes before 22".
unfoldable pub job_of : Job → List ℕ → ℕ → ℕ → List ℕ → Controller → Report
job_of job payload destination_length out_length script c =
    when malformed job (length payload) destination_length out_length (length script) then declines c 21
    else when ready c then reports job (run (job_table job payload) (starts (begins job) c) script)
    else declines c 22
