-- The virtual chip is the controller: whatever list of accesses, events and jobs is asked of the bytes, the calls give what the rules give on the record. The
-- proof is in proofs/ChipIsController.antt.
use Rattle.std.specs.Prelude.{true, List, [], ◌∷◌, ◌≡◌, ℕ, ◌≤◌}
use Rattle.controller.specs.declared.record.Controller.{Controller}
use Rattle.notation.specs.Overlay.{laid}
use Rattle.requests.specs.Groups.{group_of}
use Rattle.virtual_chip.specs.Calls.{packed, access_call}
use Rattle.virtual_chip.specs.RecordBytes.{is_record, record_of}
use Rattle.perlovasta.specs.Job.{JobCall, request_report, tells, chip_job_call, chip_after_job}

-- an access or event in numbers: kind (0 read, 1 write, any other an event), place and value, as in a trace
pub record Group : Type 0 where
  pub kind : ℕ
  pub place : ℕ
  pub value : ℕ

-- a job in numbers, with its data, the lengths of destination and out record, and its script
pub record JobAsked : Type 0 where
  pub kind : ℕ
  pub address : ℕ
  pub n : ℕ
  pub payload : List ℕ
  pub destination_length : ℕ
  pub out_length : ℕ
  pub script : List ℕ

-- what can be asked of a virtual chip
pub data Asked : Type 0 where
  access : (g : Group) → Asked
  job : (j : JobAsked) → Asked

-- what the caller gets: of an access or event one number; of a job its answer and the bytes of destination, out record and report
abbrev pub replied : ℕ → JobCall
replied number = record { answer = number; handed = []; sent = []; told = [] }

-- by the calls, with a report of so many bytes lent to each job: what is given, and the bytes after it
unfoldable pub call_gives : ℕ → List ℕ → Asked → JobCall
call_gives report m (access g) = replied (access_call m g.kind g.place g.value).answer
call_gives report m (job j) = chip_job_call m j.kind j.address j.n j.payload j.destination_length j.out_length j.script report

unfoldable pub bytes_after : ℕ → List ℕ → Asked → List ℕ
bytes_after report m (access g) = laid (access_call m g.kind g.place g.value).bytes m
bytes_after report m (job j) = laid (chip_after_job m j.kind j.address j.n j.payload j.destination_length j.out_length j.script report) m

-- by the rules: what is given, and the record after it
unfoldable pub rule_gives : Controller → Asked → JobCall
rule_gives c (access g) = replied (packed (group_of c g.kind g.place g.value))
rule_gives c (job j) = tells (request_report c j.kind j.address j.n j.payload j.destination_length j.out_length j.script)

unfoldable pub record_after : Controller → Asked → Controller
record_after c (access g) = (group_of c g.kind g.place g.value).next
record_after c (job j) = (request_report c j.kind j.address j.n j.payload j.destination_length j.out_length j.script).result.next

-- one after the other: what is given, and what is left
unfoldable pub calls_give : ℕ → List ℕ → List Asked → List JobCall
calls_give report m [] = []
calls_give report m (x ∷ xs) = call_gives report m x ∷ calls_give report (bytes_after report m x) xs

unfoldable pub bytes_left : ℕ → List ℕ → List Asked → List ℕ
bytes_left report m [] = m
bytes_left report m (x ∷ xs) = bytes_left report (bytes_after report m x) xs

unfoldable pub rules_give : Controller → List Asked → List JobCall
rules_give c [] = []
rules_give c (x ∷ xs) = rule_gives c x ∷ rules_give (record_after c x) xs

unfoldable pub record_left : Controller → List Asked → Controller
record_left c [] = c
record_left c (x ∷ xs) = record_left (record_after c x) xs

-- on bytes that are a record, sound or not, with reports that have room for 12 bytes: all that is given, from the first to the last, and the record left
abbrev pub ChipIsController : Type 0
ChipIsController = (report : ℕ) (m : List ℕ) (xs : List Asked) → 12 ≤ report → is_record m ≡ true →
    (calls_give report m xs ≡ rules_give (record_of m) xs) × (record_of (bytes_left report m xs) ≡ record_left (record_of m) xs)
