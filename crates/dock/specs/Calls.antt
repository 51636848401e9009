-- What the library's calls give, of a state in lent bytes with any content whatever.
use Rattle.std.specs.Prelude.{Bool, List, [], ℕ, eqb, ltb, length}
use Rattle.notation.specs.Choice.{when◌then◌else◌}
use Rattle.port.specs.Ask.{ask_number}
use Rattle.port.specs.HandUp.{Taken}
use Rattle.port.specs.Port.{Port, padded, step, asking, started, recovering, given_up, taken}
use Rattle.dock.specs.StateBytes.{state_size, bytes_of, port_of}
use Rattle.port.specs.Stand.{no_job, broken_off}
use Rattle.port.specs.declared.ask.Ask.TheVariants.{Over}
use Rattle.requests.specs.Jobs.{job_for}
use Rattle.service.specs.declared.job.Job.{Job}

-- the step as a number, and the bytes that the state begins with after it, its rest as it was
pub record StepCall : Type 0 where
  pub step : ℕ
  pub state : List ℕ

unfoldable pub too_short : List ℕ → Bool
too_short m = ltb (length m) state_size

-- a state under 148 bytes: over with 21, and nothing is written
unfoldable pub not_done : StepCall
not_done = record { step = ask_number (Over 21 0); state = [] }

unfoldable pub telling : Port → StepCall
telling p = record { step = ask_number (asking p); state = bytes_of p }

-- kind (0 write, 1 read), address, n; any other kind is a job of no bytes, which is answered 21
unfoldable pub job_asked : ℕ → ℕ → ℕ → Job
job_asked kind address n = when ltb 1 kind then no_job 0 else job_for kind address n

unfoldable pub start_call : List ℕ → ℕ → ℕ → ℕ → List ℕ → StepCall
start_call m kind address n bytes = when too_short m then not_done else telling (started (port_of m) (job_asked kind address n) bytes)

unfoldable pub recover_call : List ℕ → List ℕ → StepCall
recover_call m settings = when too_short m then not_done else telling (recovering (port_of m) settings)

unfoldable pub next_call : List ℕ → ℕ → StepCall
next_call m value = when too_short m then not_done else telling (step (port_of m) value)

unfoldable pub give_up_call : List ℕ → StepCall
give_up_call m = when too_short m then not_done else telling (given_up (port_of m))

-- what a call to take the bytes gives: its result, the bytes that the destination begins with after it, and those that the state begins with
pub record TakeCall : Type 0 where
  pub answer : ℕ
  pub handed : List ℕ
  pub state : List ℕ

-- a port whose bytes were handed up: over with 21, and none of them is there any more
unfoldable pub emptied : Port → Port
emptied p = record { stand = broken_off 21 p.stand.stale; payload = p.payload; fetched = padded [] }

-- bytes that were handed up are gone from the state; else it stays
unfoldable pub taking : Port → Taken → TakeCall
taking p t = record { answer = t.answer; handed = t.handed; state = when eqb t.answer 0 then bytes_of (emptied p) else [] }

-- the length of the destination
unfoldable pub take_call : List ℕ → ℕ → TakeCall
take_call m destination_length =
    when too_short m then record { answer = 21; handed = []; state = [] }
    else taking (port_of m) (taken (port_of m) destination_length)
