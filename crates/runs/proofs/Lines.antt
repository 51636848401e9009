-- The lines of a table that a job's work needs, and what performing each comes to. Whatever table has such a line, here is what it does.
-- Assumes nothing.
use mathlib.Core.List.{List, [], ◌∷◌, ◌++◌, map}
use mathlib.Core.Path.{◌≡◌, refl}
use Prim.Native.Nat.{ℕ}
use lib.ListN.{take}
use Rattle.address.specs.Number.{byte_of}
use Rattle.answer.specs.declared.ending.Ending.TheVariants.{Done, AddressNacked, DataNacked, Lost, Fault}
use Rattle.answer.specs.declared.ending.Ending.{Ending}
use Rattle.block.specs.Block.{written}
use Rattle.controller.specs.Access.{read_of}
use Rattle.controller.specs.declared.record.Controller.{Controller}
use Rattle.notation.specs.Choice.{when◌then◌else◌, among}
use Rattle.service.proofs.Blocks.{load_block}
use Rattle.service.specs.Act.{writes, reads_all, counts, Work, put, reads, fetch, read_times, does, does_all, follows, performs}
use Rattle.service.specs.JobSteps.{finds_moved, go_on_after, stop_after, end_after}
use Rattle.service.specs.JobTable.{job_table}
use Rattle.service.specs.Progress.{progress, with_record, with_noted_count}
use Rattle.service.specs.Serve.{Table}
use Rattle.service.specs.declared.job.Job.{Job}
use Rattle.service.specs.declared.progress.Progress.{Progress}

-- at this status the table has this work, whatever the count
abbrev pub Line : Table → ℕ → Work → Type 0
Line table status work = (count : ℕ) → table status count ≡ work

-- the address byte, and 40h
abbrev pub address_work : ℕ → Work
address_work byte = go_on_after (writes 1 byte ∷ writes 3 0x40 ∷ [])

-- data, and 41h
abbrev pub data_work : List ℕ → Work
data_work bytes = go_on_after (map (writes 1) bytes ++ (writes 3 0x41 ∷ []))

abbrev pub receive_work : Work
receive_work = go_on_after (writes 3 0x41 ∷ [])

abbrev pub nacked_work : Work
nacked_work = stop_after (counts 0 ∷ []) AddressNacked

abbrev pub sent_work : ℕ → Work
sent_work n = stop_after (counts n ∷ []) Done

abbrev pub data_nacked_work : Work
data_nacked_work = stop_after finds_moved DataNacked

abbrev pub received_work : ℕ → Work
received_work n = stop_after (counts n ∷ reads_all ∷ []) Done

abbrev pub lost_work : Work
lost_work = end_after (writes 3 0x40 ∷ []) Lost

abbrev pub fault_work : Work
fault_work = end_after [] Fault

-- all lines of a job
pub record JobLines (table : Table) (job : Job) (payload : List ℕ) : Type 0 where
  pub at_08 : Line table 0x08 (address_work (byte_of job.address job.direction).0)
  pub at_18 : Line table 0x18 (data_work (take job.n payload))
  pub at_40 : Line table 0x40 receive_work
  pub at_20 : Line table 0x20 nacked_work
  pub at_48 : Line table 0x48 nacked_work
  pub at_28 : Line table 0x28 (sent_work job.n)
  pub at_30 : Line table 0x30 data_nacked_work
  pub at_58 : Line table 0x58 (received_work job.n)
  pub at_38 : Line table 0x38 lost_work
  pub at_00 : Line table 0x00 fault_work
  pub at_70 : Line table 0x70 fault_work
  pub at_78 : Line table 0x78 fault_work

pub job_lines : (job : Job) (payload : List ℕ) → JobLines (job_table job payload) job payload
unfolding job_table among when◌then◌else◌
job_lines job payload = record {
  at_08 = λ _. refl;
  at_18 = λ _. refl;
  at_40 = λ _. refl;
  at_20 = λ _. refl;
  at_48 = λ _. refl;
  at_28 = λ _. refl;
  at_30 = λ _. refl;
  at_58 = λ _. refl;
  at_38 = λ _. refl;
  at_00 = λ _. refl;
  at_70 = λ _. refl;
  at_78 = λ _. refl;
}

-- What each comes to.

pub addresses : (byte : ℕ) (q : Progress) → performs (address_work byte) q ≡ with_record q (put (put q.controller 1 byte) 3 0x40)
unfolding performs does_all does follows
addresses byte q = refl

pub loads : (bytes : List ℕ) (q : Progress) → performs (data_work bytes) q ≡ with_record q (put (written bytes q.controller) 3 0x41)
unfolding performs does_all does follows
loads bytes q = load_block bytes (writes 3 0x41 ∷ []) q

pub receives : (q : Progress) → performs receive_work q ≡ with_record q (put q.controller 3 0x41)
unfolding performs does_all does follows
receives q = refl

-- 50h is written, and own STOP will give this answer and count
abbrev pub stopped : Progress → Ending → ℕ → Progress
stopped q ending count = progress (put q.controller 3 0x50) q.over ending count q.events q.fetched

pub counts-and-stops : (n : ℕ) (ending : Ending) (q : Progress) → performs (stop_after (counts n ∷ []) ending) q ≡ stopped q ending n
unfolding performs does_all does follows
counts-and-stops n ending q = refl

-- the moved count is read at pointer 07h, and the pointer goes back
abbrev pub moved_count : Controller → ℕ
moved_count c = reads (put c 0 0x07) 2

abbrev pub points_back : Controller → Controller
points_back c = put (read_of (put c 0 0x07) 2).next 0 0x00

pub finds_and_stops : (ending : Ending) (q : Progress) →
    performs (stop_after finds_moved ending) q ≡ stopped (with_record q (points_back q.controller)) ending (moved_count q.controller)
unfolding performs does_all does follows
finds_and_stops ending q = refl

-- n is noted, and n bytes read back
abbrev pub read_back : ℕ → Progress → Progress
read_back n q = fetch (read_times n) 0 (with_noted_count q n)

pub reads-and-stops : (n : ℕ) (ending : Ending) (q : Progress) →
    performs (stop_after (counts n ∷ reads_all ∷ []) ending) q ≡ stopped (read_back n q) ending (read_back n q).count
unfolding performs does_all does follows
reads-and-stops n ending q = refl
