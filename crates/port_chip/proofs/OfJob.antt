-- What holds between a job and what passed since it began, by the stage. Assumes nothing.
use mathlib.Core.Bool.{true, false}
use mathlib.Core.List.{List, [], ◌++◌}
use mathlib.Core.Path.{◌≡◌}
use Prim.Native.Nat.{ℕ, ◌≤◌, ◌<◌}
use lib.ListN.{length, take}
use Rattle.notation.specs.Choice.{among}
use Rattle.port.specs.Look.{meets}
use Rattle.port.specs.declared.stage.Stage.TheVariants.{Over, Control, Status, First, Waiting, Look, Interrupted, Working, Recovering, Pausing, Recheck}
use Rattle.port.specs.declared.stage.Stage.{Stage}
use Rattle.port.specs.declared.stand.Stand.{Stand}
use Rattle.port_chip.proofs.DoneLine.{bytes_of}
use Rattle.port_chip.proofs.SinceStatus.{SinceStatus, Checked, AllRead, StopAsked}
use Rattle.port_chip.specs.AnyChip.{reads_of, done_status, DoneSo}
use Rattle.port_chip.specs.Passed.{Exchange}
use Rattle.service.specs.declared.job.Job.{Job}

-- 1 to 68 bytes
pub record Fits (job : Job) : Type 0 where
  pub low : 1 ≤ job.n
  pub high : job.n ≤ 68

abbrev pub done_at : Job → ℕ
done_at job = done_status job.direction

-- at the status at which the job is done some bytes are read; after the last of them I2CCON was looked at (in a write there are none)
pub record Reading (s : Stand) (sofar : List Exchange) (fetched : List ℕ) : Type 0 where
  pub within : s.made ≤ bytes_of s.job
  pub amid : s.made < bytes_of s.job → SinceStatus (done_at s.job) sofar (take s.made fetched) []
  pub all : s.made ≡ bytes_of s.job → AllRead s.job.direction sofar (take s.made fetched)

-- at work: own STOP is not due
pub record AtWork (s : Stand) (sofar : List Exchange) (fetched : List ℕ) : Type 0 where
  pub off : s.due ≡ false
  pub listed : among s.status (meets s.job.direction) ≡ true
  pub reading : s.status ≡ done_at s.job → Reading s sofar fetched

-- before that look: at the status at which the job is done all bytes are read
pub record AtRecheck (s : Stand) (sofar : List Exchange) (fetched : List ℕ) : Type 0 where
  pub off : s.due ≡ false
  pub listed : among s.status (meets s.job.direction) ≡ true
  pub reading : s.status ≡ done_at s.job → (s.made ≡ bytes_of s.job) × SinceStatus (done_at s.job) sofar (take s.made fetched) []

-- between two lines: where own STOP is due and will give 0, the bytes are read and 50h is written
abbrev pub Between : Stand → List Exchange → List ℕ → Type 0
Between s sofar fetched = s.due ≡ true → s.answer ≡ 0 → StopAsked s.job.direction sofar (take (bytes_of s.job) fetched)

-- done, and these bytes were read, with that look after them
pub record DoneWith (job : Job) (sofar : List Exchange) (bytes : List ℕ) : Type 0 where
  pub done : DoneSo job sofar
  pub look : List Exchange
  pub checked : Checked job.direction look
  pub fetched : done.between ≡ reads_of bytes ++ look

abbrev pub At : Stage → Stand → List Exchange → List ℕ → Type 0
At Over s sofar fetched = s.answer ≡ 0 → DoneWith s.job sofar (take (bytes_of s.job) fetched)
At Control s sofar fetched = s.due ≡ false
At Status s sofar fetched = s.due ≡ false
At First s sofar fetched = s.due ≡ false
At Waiting s sofar fetched = Between s sofar fetched
At Look s sofar fetched = Between s sofar fetched
At Interrupted s sofar fetched = Between s sofar fetched
At Working s sofar fetched = AtWork s sofar fetched
At Recovering s sofar fetched = ⊥
At Pausing s sofar fetched = ⊥
At Recheck s sofar fetched = AtRecheck s sofar fetched

pub record OfJob (sofar : List Exchange) (fetched : List ℕ) (s : Stand) : Type 0 where
  pub fits : Fits s.job
  pub places : length fetched ≡ 68
  pub at : At s.stage s sofar fetched
