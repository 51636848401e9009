-- The accesses in hand: those of a job's beginning, of a line of its table, or of a recovery, one by one.
use Rattle.std.specs.Prelude.{List, [], ◌∷◌, ◌++◌, ℕ, zero, suc, ◌+◌, take}
use Rattle.port.specs.declared.stage.Stage.TheVariants.{Over, Control, Status, First, Waiting, Look, Interrupted, Working, Recovering, Pausing, Recheck}
use Rattle.port.specs.declared.stage.Stage.{Stage}
use Rattle.port.specs.declared.stand.Stand.{Stand}
use Rattle.service.specs.Act.{Act, writes, reads_data, reads_all, reads_count, counts, Work, read_times}
use Rattle.service.specs.JobSteps.{begins}
use Rattle.service.specs.JobTable.{job_table}

-- so many reads of I2CDAT, noted at place i and those after it
unfoldable pub reads_from : ℕ → ℕ → List Act
reads_from zero i = []
reads_from (suc more) i = reads_data i ∷ reads_from more (i + 1)

-- the accesses of some acts, with this count noted before them. (A count that was read from the chip is never the number of reads after it.)
unfoldable pub accesses : ℕ → List Act → List Act
accesses count [] = []
accesses count (writes register value ∷ xs) = writes register value ∷ accesses count xs
accesses count (reads_data at ∷ xs) = reads_data at ∷ accesses count xs
accesses count (reads_all ∷ xs) = reads_from (read_times count) 0 ++ accesses count xs
accesses count (reads_count ∷ xs) = reads_count ∷ accesses count xs
accesses count (counts k ∷ xs) = accesses k xs

-- the count that some acts note before their first access
unfoldable pub notes : ℕ → List Act → ℕ
notes count [] = count
notes count (writes register value ∷ xs) = count
notes count (reads_data at ∷ xs) = count
notes count (reads_all ∷ xs) = count
notes count (reads_count ∷ xs) = count
notes count (counts k ∷ xs) = notes k xs

-- bytes written to one register and the other in turn
unfoldable pub alternates : ℕ → ℕ → List ℕ → List Act
alternates register other [] = []
alternates register other (x ∷ xs) = writes register x ∷ alternates other register xs

-- A recovery: the software reset (05h to INDPTR, A5h and 5Ah to I2CPRESET), the registers that the caller wants set (its pointer to INDPTR, its value to
-- register 2, each in turn), and 40h to I2CCON.
unfoldable pub recovers : List ℕ → List Act
recovers settings = writes 0 0x05 ∷ writes 2 0xA5 ∷ writes 2 0x5A ∷ (alternates 0 2 settings ++ (writes 3 0x40 ∷ []))

-- the line of the job's table at the status that is worked on
abbrev pub line : Stand → List ℕ → Work
line s payload = job_table s.job payload s.status s.count

-- the accesses in hand at a stage; `payload` is the data of a write, or the settings of a recovery
unfoldable pub in_hand_at : Stage → Stand → List ℕ → List Act
in_hand_at Over s payload = []
in_hand_at Control s payload = []
in_hand_at Status s payload = []
in_hand_at First s payload = begins s.job
in_hand_at Waiting s payload = []
in_hand_at Look s payload = []
in_hand_at Interrupted s payload = []
in_hand_at Working s payload = accesses s.count (line s payload).acts
in_hand_at Recovering s payload = recovers (take s.job.n payload)
in_hand_at Pausing s payload = []
in_hand_at Recheck s payload = []

abbrev pub in_hand : Stand → List ℕ → List Act
in_hand s payload = in_hand_at s.stage s payload

-- the access with this number, from 0; the last one where there are no more
unfoldable pub nth : List Act → ℕ → Act
nth [] k = counts 0
nth (x ∷ []) k = x
nth (x ∷ y ∷ ys) zero = x
nth (x ∷ y ∷ ys) (suc k) = nth (y ∷ ys) k

-- the access that was asked for
abbrev pub access : Stand → List ℕ → Act
access s payload = nth (in_hand s payload) s.made

-- the place at which a read of I2CDAT is noted; 68 is none
unfoldable pub place_of : Act → ℕ
place_of (writes register value) = 68
place_of (reads_data at) = at
place_of reads_all = 68
place_of reads_count = 68
place_of (counts count) = 68

-- the count noted after an access that read this value
unfoldable pub count_after : Act → ℕ → ℕ → ℕ
count_after (writes register value) count heard = count
count_after (reads_data at) count heard = count
count_after reads_all count heard = count
count_after reads_count count heard = heard
count_after (counts k) count heard = count
