-- `perlovasta_chip_job` is `chip_job_call`, and leaves the chip as `chip_after_job` says: `run_reported` promises both, where the report has room.
use mathlib.Core.List.{List}
use mathlib.Core.Path.{sym, ap, ◌∙◌}
use Prim.Native.Nat.{ℕ}
use borrow.Author.Tests.{lt-ltb, le-ltb}
use lib.ListN.{length}
use Rattle.controller.specs.declared.record.Controller.{Controller}
use Rattle.notation.proofs.Cases.{when-true, when-false}
use Rattle.notation.specs.Overlay.{laid}
use Rattle.perlovasta.proofs.Answered.{short_report_lem, reported}
use Rattle.perlovasta.specs.Job.{request_report, result_left, chip_after_job}
use Rattle.virtual_chip.specs.RecordBytes.{record_of}
use Rattle.perlovasta.proofs.chip.perlovasta_chip_job.Goals as goal

pub returns-in_default : goal.returns-in_default
unfolding chip_after_job laid
returns-in_default c =
    let s = c.args in
    let chip = s.chip.now in
    let short = c.in_default.ensures.cases in
    let g = short_report_lem (record_of chip) s.kind s.address s.n s.payload.now s.destination.now s.out.now s.script.now
    s.report.now short in
    record {
      answer = c.number.ensures ∙ g.0;
      handed = g.1;
      sent = g.2;
      told = g.3;
      chip = sym (ap (λ (xs : List ℕ). laid xs chip) (when-true _ _ _ (lt-ltb (length s.report.now) 12 short)));
    }

pub returns : goal.returns
unfolding chip_after_job
returns c =
    let s = c.args in
    let chip = s.chip.now in
    let ran = c.run_reported.ensures in
    let long = c.in-Some.ensures.cases.enough in
    let g = reported (record_of chip) s.kind s.address s.n s.payload.now s.destination.now s.out.now s.script.now s.report.now _ _ _ _ _
    c.load-c.ensures long ran.answer ran.handed ran.sent ran.told in
    let asked : Controller → List ℕ = λ d. result_left (length chip) (request_report d s.kind s.address s.n s.payload.now
    (length s.destination.now) (length s.out.now) s.script.now).result in
    let left =
    ran.chip
    ∙ ap (λ (d : Controller). laid (asked d) chip) c.load-c.ensures
    ∙ sym (ap (λ (xs : List ℕ). laid xs chip) (when-false _ _ _ (le-ltb (length s.report.now) 12 long))) in
    record { answer = g.0; handed = g.1; sent = g.2; told = g.3; chip = left }
