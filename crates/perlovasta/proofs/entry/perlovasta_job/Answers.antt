-- `perlovasta_job` is `job_call`: `run_reported` promises what it gives, where the report has room.
use mathlib.Core.Path.{◌∙◌}
use Rattle.perlovasta.proofs.Answered.{short_report_lem, reported}
use Rattle.requests.specs.Jobs.{fresh_enabled}
use Rattle.perlovasta.proofs.entry.perlovasta_job.Goals as goal

pub returns-in_default : goal.returns-in_default
returns-in_default c =
    let s = c.args in
    let g = short_report_lem fresh_enabled s.kind s.address s.n s.payload.now s.destination.now s.out.now s.script.now
    s.report.now c.in_default.ensures.cases in
    record { answer = c.number.ensures ∙ g.0; handed = g.1; sent = g.2; told = g.3 }

pub returns : goal.returns
returns c =
    let s = c.args in
    let ran = c.run_reported.ensures in
    let g = reported fresh_enabled s.kind s.address s.n s.payload.now s.destination.now s.out.now s.script.now s.report.now _ _ _ _ _
    c.fresh_enabled.ensures c.in-Some.ensures.cases.enough ran.answer ran.handed ran.sent ran.told in
    record { answer = g.0; handed = g.1; sent = g.2; told = g.3 }
