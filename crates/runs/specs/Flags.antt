-- The flags of I2CCON while a job lasts, whatever its script (document 01, Jobs). `flags-held` (proofs/FlagsHeld.antt) says that it is so.
use Rattle.std.specs.Prelude.{true, false, List, [], ◌∷◌, ◌≡◌, ℕ, eqb, length}
use Rattle.control.specs.Turn.{free, busy, listen, stopping, waits}
use Rattle.controller.specs.Event.{event_of}
use Rattle.controller.specs.Reset.{reset}
use Rattle.controller.specs.declared.record.Controller.{Controller}
use Rattle.driver.specs.Run.{taking}
use Rattle.service.specs.JobSteps.{begins}
use Rattle.service.specs.JobTable.{job_table}
use Rattle.service.specs.Request.{malformed, ready}
use Rattle.service.specs.Serve.{Table, starts, serve}
use Rattle.service.specs.declared.job.Job.{Job}
use Rattle.service.specs.declared.progress.Progress.{Progress}

-- ENSIO is 1; STA is 1 exactly while the job waits for the bus, and STO exactly while it waits for own STOP
pub record Held (p : Progress) : Type 0 where
  pub ensio : p.controller.control.ensio ≡ true
  pub sta : p.controller.control.sta ≡ waits p.controller.turn (free ∷ busy ∷ listen ∷ [])
  pub sto : p.controller.control.sto ≡ waits p.controller.turn (stopping ∷ [])

-- so it is before the script's first pair, and after every pair as long as the job lasts
abbrev pub HeldThroughout : Table → Progress → List ℕ → Type 0
HeldThroughout table p [] = Held p
HeldThroughout table p (event ∷ []) = Held p
HeldThroughout table p (event ∷ argument ∷ rest) =
    let o = event_of p.controller event argument in
    let q = serve table event (taking p o.next) in
    Held p × (eqb o.refused 0 ≡ true → q.over ≡ false → HeldThroughout table q rest)

-- every job that begins with STO 0, of which `ready` says nothing
abbrev pub FlagsHeld : Type 0
FlagsHeld = (job : Job) (payload : List ℕ) (destination_length out_length : ℕ) (script : List ℕ) (c : Controller) →
    malformed job (length payload) destination_length out_length (length script) ≡ false → ready c ≡ true → c.control.sto ≡ false →
    length c.buffer ≡ 68 → HeldThroughout (job_table job payload) (starts (begins job) c) script

-- after a reset ENSIO is 0 (`reset-disables`)
abbrev pub ResetDisables : Type 0
ResetDisables = (c : Controller) → (reset c).control.ensio ≡ false
