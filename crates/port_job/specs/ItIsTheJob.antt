-- The port run against the model is the job, over any list of jobs and recoveries. The proofs are in proofs/ItIsTheJob.antt.
use Rattle.std.specs.Prelude.{true, false, List, [], ◌∷◌, ◌⊎◌, ◌≡◌, ℕ, ◌%◌, eqb, length}
use Rattle.control.specs.Turn.{busy, listen, waits}
use Rattle.controller.specs.Record.{sound}
use Rattle.driver.specs.Run.{job_of}
use Rattle.notation.specs.Choice.{among}
use Rattle.port.specs.Begin.{unsettled, bad_settings}
use Rattle.port.specs.Port.{asking}
use Rattle.port.specs.declared.ask.Ask.TheVariants.{Over}
use Rattle.port_job.specs.Items.{Item, job, recovery, event, leaves, looks_ready, port_job_of}
use Rattle.port_job.specs.OnModel.{At, played, reported}
use Rattle.service.specs.Request.{ready}
use Rattle.service.specs.declared.job.Job.{Job}

-- Where the port begins a job, the model is ready or in Busy or Listen: never in the midst of an older job.
abbrev pub ReadyOrBusy : At → Type 0
ReadyOrBusy s = unsettled s.port.stand ≡ false → looks_ready s.chip ≡ true →
    (ready s.chip ≡ true) ⊎ (waits s.chip.turn (busy ∷ listen ∷ []) ≡ true)

-- after own STOP the port calls the chip ready, and so does the model
pub record ReadyAgain (s : At) : Type 0 where
  pub brought_back : unsettled s.port.stand ≡ false
  pub looks : looks_ready s.chip ≡ true
  pub is_ready : ready s.chip ≡ true

-- a job gives what the job of document 01 gives: answer, number beside it, count, pairs taken, bytes sent, bytes handed up, and the record left
pub record JobHolds (asked : Job) (payload script : List ℕ) (s : At) : Type 0 where
  pub ready_or_busy : ReadyOrBusy s
  pub same : reported (played asked payload script s) ≡ port_job_of asked payload script s.port.stand s.chip
  pub again : among (played asked payload script s).result.answer (0 ∷ 23 ∷ 24 ∷ []) ≡ true → ReadyAgain (leaves (job asked payload script) s)

-- a recovery is answered 0, and the port calls the chip ready, and so does the model; settings that no recovery takes are answered 21
pub record RecoveryHolds (settings : List ℕ) (s : At) : Type 0 where
  pub done : bad_settings settings ≡ false → (asking (leaves (recovery settings) s).port ≡ Over 0 0) × ReadyAgain (leaves (recovery settings) s)
  pub refused : bad_settings settings ≡ true → (asking (leaves (recovery settings) s).port ≡ Over 21 0) × ((leaves (recovery settings) s).chip ≡ s.chip)

abbrev pub Holds : Item → At → Type 0
Holds (job asked payload script) s = JobHolds asked payload script s
Holds (recovery settings) s = RecoveryHolds settings s
Holds (event number argument) s = Unit {0}

-- each on the list, from where the one before left port and controller
abbrev pub Each : List Item → At → Type 0
Each [] s = Unit {0}
Each (x ∷ xs) s = Holds x s × Each xs (leaves x s)

-- From a recovery on, through any list of jobs and recoveries, with what the bus does between them; in whatever state the port was found before it.
abbrev pub ItIsTheJob : Type 0
ItIsTheJob = (settings : List ℕ) (items : List Item) (s : At) → sound s.chip ≡ true → length s.chip.buffer ≡ 68 →
    bad_settings settings ≡ false → Each (recovery settings ∷ items) s

-- Where nothing comes between them, it is the job to the letter, also after 27 and 28.
abbrev pub Whole : Item → Type 0
Whole (job asked payload script) = eqb (length script % 2) 1 ≡ false
Whole (recovery settings) = bad_settings settings ≡ false
Whole (event number argument) = ⊥

abbrev pub AllWhole : List Item → Type 0
AllWhole [] = Unit {0}
AllWhole (x ∷ xs) = Whole x × AllWhole xs

abbrev pub SameAsJob : Item → At → Type 0
SameAsJob (job asked payload script) s = reported (played asked payload script s) ≡ job_of asked payload 68 69 script s.chip
SameAsJob (recovery settings) s = Unit {0}
SameAsJob (event number argument) s = Unit {0}

abbrev pub EachSame : List Item → At → Type 0
EachSame [] s = Unit {0}
EachSame (x ∷ xs) s = SameAsJob x s × EachSame xs (leaves x s)

abbrev pub JobsAlone : Type 0
JobsAlone = (settings : List ℕ) (items : List Item) (s : At) → sound s.chip ≡ true → length s.chip.buffer ≡ 68 →
    bad_settings settings ≡ false → AllWhole items → EachSame (recovery settings ∷ items) s
