-- The program's text is printed whole: it has no more bytes than the memory in which it is put. Assumes nothing.
use mathlib.Core.List.{List, []}
use mathlib.Core.Path.{◌≡◌, sym, ap, ◌∙◌}
use mathlib.Core.Bool.{true}
use Prim.Native.Nat.{ℕ, ◌≤◌}
use native.Mathlib.Omega.{arith}
use lib.ListN.{length}
use Rattle.console.proofs.Sizes.{text_size, text_fits}
use Rattle.console.specs.JobText.{report_text}
use Rattle.controller.specs.declared.record.Controller.{Controller}
use Rattle.driver.specs.Run.{Report, declines, job_of}
use Rattle.job.specs.Program.{IsParsed, bad_input, program_report, program_text}
use Rattle.notation.proofs.Cases.{split, when-true, when-false}
use Rattle.service.specs.declared.job.Job.{Job}
use Rattle.text.proofs.Appended.{appended-whole}
use Rattle.text.specs.Text.{appended}
use Rattle.requests.proofs.FreshEnabled.{fresh-enabled-places}
use Rattle.requests.specs.Jobs.{fresh_enabled}

declined-size : (c : Controller) (answer : ℕ) → length (report_text (declines c answer)) ≤ 1024
unfolding declines
declined-size c answer = text_size (declines c answer) (omega arith) (omega arith)

-- Whatever the input.
pub whole : (input : List ℕ) → length (program_text input) ≤ 1024
unfolding program_text program_report
whole input =
    split (λ (r : Report). length (report_text r) ≤ 1024) (bad_input input) _ _ (λ _. declined-size fresh_enabled 21)
    (λ _. text_fits _ _ _ fresh_enabled fresh-enabled-places)

same-job : {job job' : Job} {payload payload' script script' : List ℕ} {c c' : Controller} → job ≡ job' → payload ≡ payload' → script ≡ script' → c ≡ c' →
    job_of job payload 68 69 script c ≡ job_of job' payload' 68 69 script' c'
same-job j p s e = cc

-- what is put of a bad input, and of any other
put_whole : (input start text put : List ℕ) → start ≡ [] → text ≡ appended 1024 start put → put ≡ program_text input → text ≡ program_text input
put_whole input start text put s t e =
    t ∙ ap (λ (l : List ℕ). appended 1024 l put) s ∙ ap (appended 1024 []) e ∙ appended-whole 1024 (program_text input) (whole input)

pub declined-printed : (input start text : List ℕ) (c : Controller) → bad_input input ≡ true → c ≡ fresh_enabled → start ≡ [] →
    text ≡ appended 1024 start (report_text (declines c 21)) → text ≡ program_text input
unfolding program_text program_report
declined-printed input start text c bad e s t =
    put_whole input start text _ s t
    (ap (λ (d : Controller). report_text (declines d 21)) e ∙ ap report_text (sym (when-true _ _ _ bad)))

pub run-printed : (input payload script start text : List ℕ) (asked : Job) (c : Controller) → IsParsed input asked payload script → c ≡ fresh_enabled → start ≡ [] →
    text ≡ appended 1024 start (report_text (job_of asked payload 68 69 script c)) → text ≡ program_text input
unfolding program_text program_report
run-printed input payload script start text asked c parts e s t =
    put_whole input start text _ s t
    (ap report_text (same-job parts.job parts.sent parts.rest e ∙ sym (when-false _ _ _ parts.fine)))
