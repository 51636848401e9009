-- Demand 3, whole, as one statement, `Demand3`, at the end of this file. In the words of those who asked (00-demands.md): "Take any two controllers alike in
-- all but the old contents of the 68 places. Give both the same list of jobs with their scripts, resets, enabling writes and other masters' STARTs, STOPs and
-- address bytes, in any order, refused ones included. For every such list, whatever the bus does in its scripts, the two give the same answers, counts, bytes
-- sent and bytes handed up, from the first on the list to the last. In every finished read on the list, the bytes handed up are exactly those the bus carried
-- in that read, in the order it carried them."
--
-- That it holds is `demand_3` in proofs/Theorem.antt; nothing of the proof has to be read to know what is claimed. Quotations below are of document 01,
-- which spells the demand out; where `demand` or `document 02` stands before one, it is of the demand itself, or of document 02.
--
-- The statement speaks of the definitions. The code's `write`, `event` and `run_job` are proved equal to them; what that makes of the caller's destination
-- and out record is said in CallersMemory.antt.
use Rattle.std.specs.Prelude.{List, [], ◌∷◌, ◌≡◌, ℕ, length}
use Rattle.address.specs.declared.number.Direction.TheVariants.{Read}
use Rattle.control.specs.declared.reason.Reason.{Reason}
use Rattle.controller.specs.Access.{write_of}
use Rattle.controller.specs.Event.{event_of}
use Rattle.controller.specs.Reply.{Outcome}
use Rattle.controller.specs.declared.record.Controller.{Controller}
use Rattle.driver.specs.Run.{Report, job_of}
use Rattle.runs.specs.OneRun.{carried}
use Rattle.service.specs.declared.job.Job.{Job}

-- A job on the list. "The same job means the same kind, address, n, data, script and lengths of destination and out record; what those
-- two held may differ." Kind, address and n are in `job`; what destination and out record held is not in here at all.
pub record GivenJob : Type 0 where
  pub job : Job
  pub payload : List ℕ
  pub destination_length : ℕ
  pub out_length : ℕ
  pub script : List ℕ

-- What the list may hold. Demand: "Give both the same list of jobs with their scripts, resets, enabling writes and other masters' STARTs, STOPs and address
-- bytes, in any order, refused ones included." The list here is wider than the paper's: any
-- byte to INDPTR, to register 2 whatever the pointer, and to I2CCON; events 2, 3 and 14 with any argument.
pub data Item : Type 0 where
  -- a job with its script
  run_job : GivenJob → Item
  -- "a reset is event 14": the reset pin, with its argument
  reset_pin : ℕ → Item
  -- "or the software one (A5h and next 5Ah to I2CPRESET, with 05h written to INDPTR first ..)": a byte written to INDPTR, and one to
  -- register 2, which is I2CPRESET where the pointer is 05h
  indptr : ℕ → Item
  register2 : ℕ → Item
  -- "an enabling write is any I2CCON write with ENSIO 1": a byte written to I2CCON, with ENSIO 1 or not
  i2ccon : ℕ → Item
  -- "other masters' STARTs, STOPs and address bytes are events 2, 3 and 5", each with its argument
  anothers_start : ℕ → Item
  anothers_stop : ℕ → Item
  anothers_address : ℕ → Item

-- What is compared of what an item answers.
pub data Seen : Type 0 where
  -- "for each write or event, its refusal number, if any, and its value"
  answered : (refused value : ℕ) → Seen
  -- "for each job its answer, the number beside it, its count, events used, bytes sent and bytes handed up, both in order"
  worked : (answer refused count events : ℕ) (sent handed : List ℕ) → Seen

-- one item given to a record: the record that it leaves, and what it answers
pub record Step : Type 0 where
  pub next : Controller
  pub seen : Seen

abbrev pub of_access : Outcome → Step
of_access o = record { next = o.next; seen = answered o.refused o.value }

abbrev pub of_job : Report → Step
of_job r = record {
  next = r.result.next;
  seen = worked r.result.answer r.result.refused r.result.count r.result.events r.sent r.handed;
}

-- the report of a job given to a record
abbrev pub report_of : GivenJob → Controller → Report
report_of q c = job_of q.job q.payload q.destination_length q.out_length q.script c

-- each item by the rules of document 01, as the landed requests of document 02 mend them
abbrev pub step : Item → Controller → Step
step (run_job q) c = of_job (report_of q c)
step (reset_pin argument) c = of_access (event_of c 14 argument)
step (indptr value) c = of_access (write_of c 0 value)
step (register2 value) c = of_access (write_of c 2 value)
step (i2ccon value) c = of_access (write_of c 3 value)
step (anothers_start argument) c = of_access (event_of c 2 argument)
step (anothers_stop argument) c = of_access (event_of c 3 argument)
step (anothers_address byte) c = of_access (event_of c 5 byte)

-- What is compared of one item: what it answered, and why a move ended in the record that it left. Document 02, request 8: "Demand 3 covers it:
-- after each one on the list it is the same in both records."
pub record Compared : Type 0 where
  pub seen : Seen
  pub reason : Reason

abbrev pub of_step : Step → Compared
of_step s = record { seen = s.seen; reason = s.next.reason }

-- "Each one on the list, accepted or refused, gets the record that the one before left, and nothing else writes the two records
-- meanwhile."
unfoldable pub observe : List Item → Controller → List Compared
observe [] c = []
observe (i ∷ items) c = of_step (step i c) ∷ observe items (step i c).next

-- "A finished read is a read answered 0. What the bus carried in it are the arguments of the event 7 pairs before its script's first event 4, n of them, in
-- script order." (`carried`, runs/specs/OneRun.antt)
abbrev pub HandsUpCarried : GivenJob → Report → Type 0
HandsUpCarried q r =
    r.result.answer ≡ 0 → q.job.direction ≡ Read → (r.handed ≡ carried q.script) × (length r.handed ≡ q.job.n)

-- of one item; there is nothing to say of what is no job
abbrev pub Carries : Item → Controller → Type 0
Carries (run_job q) c = HandsUpCarried q (report_of q c)
Carries (reset_pin argument) c = Unit {0}
Carries (indptr value) c = Unit {0}
Carries (register2 value) c = Unit {0}
Carries (i2ccon value) c = Unit {0}
Carries (anothers_start argument) c = Unit {0}
Carries (anothers_stop argument) c = Unit {0}
Carries (anothers_address byte) c = Unit {0}

-- of every item, each given the record that the one before left
abbrev pub AllCarry : List Item → Controller → Type 0
AllCarry [] c = Unit {0}
AllCarry (i ∷ items) c = Carries i c × AllCarry items (step i c).next

-- "The two starting records are any, sound or not and in any turn, that are equal but for what the 68 places hold; that is their old
-- contents." (A buffer is a list here, so that it has 68 places is said as well.)
pub record AlikeButForPlaces (c c' : Controller) : Type 0 where
  pub hand : c.hand ≡ c'.hand
  pub moved : c.moved ≡ c'.moved
  pub pointer : c.pointer ≡ c'.pointer
  pub armed : c.armed ≡ c'.armed
  pub registers : c.registers ≡ c'.registers
  pub control : c.control ≡ c'.control
  pub turn : c.turn ≡ c'.turn
  pub reason : c.reason ≡ c'.reason
  pub buffer_length : length c.buffer ≡ 68
  pub buffer_length' : length c'.buffer ≡ 68

-- Demand: "For every such list, whatever the bus does in its scripts, the two give the same answers, counts, bytes sent and bytes handed up, from the first
-- on the list to the last. In every finished read on the list, the bytes handed up are exactly those the bus carried in that read, in the order it carried
-- them."
pub record NoOldBytes (items : List Item) (c c' : Controller) : Type 0 where
  pub same : observe items c ≡ observe items c'
  pub carry : AllCarry items c
  pub carry' : AllCarry items c'

-- "Demand 3 is one claim about the whole list, not one for each thing on it."
abbrev pub Demand3 : Type 0
Demand3 = (items : List Item) (c c' : Controller) → AlikeButForPlaces c c' → NoOldBytes items c c'
