-- Of the job that a call asks for, the number of bytes sent fits into a byte. Assumes nothing.
use mathlib.Core.List.{List}
use mathlib.Core.Path.{◌≡◌}
use Prim.Native.Nat.{ℕ, ◌≤◌}
use native.Mathlib.Omega.{arith}
use lib.Dec.{ltb}
use lib.ListN.{length}
use Rattle.controller.specs.declared.record.Controller.{Controller}
use Rattle.driver.specs.Run.{Report, declines}
use Rattle.notation.proofs.Cases.{split}
use Rattle.perlovasta.specs.Job.{request_report}
use Rattle.requests.specs.Jobs.{job_for}
use Rattle.runs.proofs.Fits.{always-fits}

pub few-sent : (c : Controller) (kind address n : ℕ) (payload : List ℕ) (room places : ℕ) (script : List ℕ) → length c.buffer ≡ 68 →
    length (request_report c kind address n payload room places script).sent ≤ 69
unfolding request_report declines
few-sent c kind address n payload room places script l =
    split (λ (r : Report). length r.sent ≤ 69) (ltb 1 kind) _ _ (λ _. omega arith)
    (λ _. (always-fits (job_for kind address n) payload room places script c l).few)

pub ruleset few = (few-sent)
