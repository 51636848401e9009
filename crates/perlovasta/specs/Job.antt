-- What a call of `perlovasta_job` and of `perlovasta_chip_job` gives: a job asked for by numbers, on a controller.
use Rattle.std.specs.Prelude.{List, [], ℕ, eqb, ltb, length}
use Rattle.controller.specs.declared.record.Controller.{Controller}
use Rattle.driver.specs.Run.{Result, Report, declines, job_of}
use Rattle.notation.specs.Choice.{when◌then◌else◌, ◌or◌}
use Rattle.requests.specs.Jobs.{fresh_enabled, job_for}
use Rattle.virtual_chip.specs.RecordBytes.{record_of, stored}
use Rattle.perlovasta.specs.ReportBytes.{report_size, report_of_job}

-- its result, and the bytes that the destination, the out record and the report begin with after it, their rest as it was
pub record JobCall : Type 0 where
  pub answer : ℕ
  pub handed : List ℕ
  pub sent : List ℕ
  pub told : List ℕ

-- the controller; kind, address, n; data; the lengths of destination and out record; script. "of another kind is 21"
unfoldable pub request_report : Controller → ℕ → ℕ → ℕ → List ℕ → ℕ → ℕ → List ℕ → Report
request_report c kind address n payload destination_length out_length script =
    when ltb 1 kind then declines c 21
    else job_of (job_for kind address n) payload destination_length out_length script c

-- the result is the job's answer
unfoldable pub tells : Report → JobCall
tells r = record { answer = r.result.answer; handed = r.handed; sent = r.sent; told = report_of_job r }

-- a report that is too short: 21, and nothing is done
unfoldable pub short_report : JobCall
short_report = record { answer = 21; handed = []; sent = []; told = [] }

-- the same with the length of the report
unfoldable pub job_call_on : Controller → ℕ → ℕ → ℕ → List ℕ → ℕ → ℕ → List ℕ → ℕ → JobCall
job_call_on c kind address n payload destination_length out_length script reportLength =
    when ltb reportLength report_size then short_report
    else tells (request_report c kind address n payload destination_length out_length script)

-- "on a fresh controller enabled by 40h"
abbrev pub job_call : ℕ → ℕ → ℕ → List ℕ → ℕ → ℕ → List ℕ → ℕ → JobCall
job_call kind address n payload destination_length out_length script reportLength =
    job_call_on fresh_enabled kind address n payload destination_length out_length script reportLength

-- on the controller in these bytes
abbrev pub chip_job_call : List ℕ → ℕ → ℕ → ℕ → List ℕ → ℕ → ℕ → List ℕ → ℕ → JobCall
chip_job_call chip kind address n payload destination_length out_length script reportLength =
    job_call_on (record_of chip) kind address n payload destination_length out_length script reportLength

-- the bytes that the chip begins with after a job: the record that it left; 21 and 22 "both leave everything as it was"
unfoldable pub result_left : ℕ → Result → List ℕ
result_left room r = when eqb r.answer 21 or eqb r.answer 22 then [] else stored room r.next

unfoldable pub chip_after_job : List ℕ → ℕ → ℕ → ℕ → List ℕ → ℕ → ℕ → List ℕ → ℕ → List ℕ
chip_after_job chip kind address n payload destination_length out_length script reportLength =
    when ltb reportLength report_size then []
    else result_left (length chip) (request_report (record_of chip) kind address n payload destination_length out_length script).result
