-- A list of what happens to a dock: jobs, recoveries, and what the bus does between them.
use Rattle.std.specs.Prelude.{Bool, List, ℕ, eqb, length}
use Rattle.controller.specs.Event.{event_of}
use Rattle.controller.specs.declared.record.Controller.{Controller}
use Rattle.driver.specs.Run.{Report, run, reports, declines}
use Rattle.notation.specs.Choice.{when◌then◌else◌, ◌and◌}
use Rattle.port.specs.Begin.{unfit, unsettled}
use Rattle.port.specs.Look.{idle_control}
use Rattle.port.specs.declared.stand.Stand.{Stand}
use Rattle.port_job.specs.OnModel.{At, at, played, recovered}
use Rattle.service.specs.Act.{reads}
use Rattle.service.specs.JobSteps.{begins}
use Rattle.service.specs.JobTable.{job_table}
use Rattle.service.specs.Serve.{starts}
use Rattle.service.specs.declared.job.Job.{Job}

pub data Item : Type 0 where
  -- a job with its data, and the pairs that come while it lasts
  job : (asked : Job) (payload script : List ℕ) → Item
  -- a recovery with the registers to be set
  recovery : (settings : List ℕ) → Item
  -- an event between jobs, accepted or refused
  event : (number argument : ℕ) → Item

-- what it leaves
unfoldable pub leaves : Item → At → At
leaves (job asked payload script) s = let r = played asked payload script s in at r.port r.result.next
leaves (recovery settings) s = recovered settings s
leaves (event number argument) s = at s.port (event_of s.chip number argument).next

-- what the port takes for ready: I2CCON with ENSIO 1 and STA, STO and SI 0, and I2CSTA F8h
unfoldable pub looks_ready : Controller → Bool
looks_ready c = idle_control (reads c 3) and eqb (reads c 0) 0xF8

-- What a job by the port is to give. It differs from `job_of` (crates/driver) in two lines: 22 by what the port knows and the registers tell, in place of
-- `ready`; and a job is begun in Busy and Listen too, where another master has the bus.
unfoldable pub port_job_of : Job → List ℕ → List ℕ → Stand → Controller → Report
port_job_of asked payload script s c =
    when unfit asked (length payload) then declines c 21
    else when unsettled s then declines c 22
    else when looks_ready c then reports asked (run (job_table asked payload) (starts (begins asked) c) script)
    else declines c 22
