-- What the parts of a call for a job promise, put together. Assumes nothing.
use mathlib.Core.List.{List, ◌++◌}
use mathlib.Core.Path.{◌≡◌, refl, sym, ap, ◌∙◌}
use Prim.Native.Nat.{ℕ, ◌<◌, ◌≤◌}
use borrow.Author.Tests.{lt-ltb, le-ltb}
use lib.ListN.{length, drop}
use Rattle.controller.specs.declared.record.Controller.{Controller}
use Rattle.driver.specs.Run.{Report}
use Rattle.notation.proofs.Cases.{when-true, when-false}
use Rattle.notation.proofs.Laid.{laid-whole}
use Rattle.notation.specs.Overlay.{laid}
use Rattle.perlovasta.specs.Job.{JobCall, request_report, tells, short_report, job_call_on}
use Rattle.perlovasta.specs.ReportBytes.{low_first, report_bytes, report_of_job}

-- the result, and what destination, out record and report are after the call
abbrev pub Gives : JobCall → ℕ → List ℕ → List ℕ → List ℕ → List ℕ → List ℕ → List ℕ → Type 0
Gives call answer destination destination' out out' report report' =
    (answer ≡ call.answer) × (destination' ≡ laid call.handed destination) × (out' ≡ laid call.sent out) × (report' ≡ laid call.told report)

gives : (call wanted : JobCall) (answer : ℕ) (d d' o o' r r' : List ℕ) → wanted ≡ call → Gives call answer d d' o o' r r' → Gives wanted answer d d' o o' r r'
gives call wanted answer d d' o o' r r' e g = (
  g.0 ∙ sym (ap (λ (x : JobCall). x.answer) e),
  g.1 ∙ sym (ap (λ (x : JobCall). laid x.handed d) e),
  g.2 ∙ sym (ap (λ (x : JobCall). laid x.sent o) e),
  g.3 ∙ sym (ap (λ (x : JobCall). laid x.told r) e),
)

module _ (c : Controller) (kind address n : ℕ) (payload destination out script report : List ℕ) where
  abbrev call : JobCall
  call = job_call_on c kind address n payload (length destination) (length out) script (length report)

  abbrev request : Controller → Report
  request d = request_report d kind address n payload (length destination) (length out) script

  -- a report that is too short
  pub short_report_lem : length report < 12 → Gives call 21 destination destination out out report report
  unfolding job_call_on short_report laid
  short_report_lem short = gives short_report _ _ _ _ _ _ _ _ (when-true _ _ _ (lt-ltb (length report) 12 short)) (refl, refl, refl, refl)

  -- the job was run on this controller, and reported
  pub reported : (d : Controller) (answer : ℕ) (destination' out' told : List ℕ) → d ≡ c → 12 ≤ length report →
      answer ≡ (request d).result.answer → destination' ≡ laid (request d).handed destination → out' ≡ laid (request d).sent out →
      told ≡ report_of_job (request d) → Gives call answer destination destination' out out' report (told ++ drop 12 report)
  unfolding job_call_on tells report_bytes low_first
  reported d answer destination' out' told e long a h s t =
      let whole = laid-whole (report_of_job (request c)) report long in
      gives _ _ _ _ _ _ _ _ _ (when-false _ _ _ (le-ltb (length report) 12 long)) (
        a ∙ ap (λ (x : Controller). (request x).result.answer) e,
        h ∙ ap (λ (x : Controller). laid (request x).handed destination) e,
        s ∙ ap (λ (x : Controller). laid (request x).sent out) e,
        ap (λ (xs : List ℕ). xs ++ drop 12 report) (t ∙ ap (λ (x : Controller). report_of_job (request x)) e) ∙ sym whole,
      )
