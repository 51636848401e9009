-- Demand 1 as statements, `Demand1` at the end of this file. "Whatever register access, bus event, job or script it is given, it ends with an answer. A
-- refused access or event changes nothing at all. A read job that isn't done leaves the caller's destination untouched. Refusals have numbers and are given
-- when document 01 says, and only then." (00-demands.md)
--
-- That everything ends with an answer, the prover shows of the code: every function returns wherever its `requires` holds, and `read`, `write`, `event` and
-- `run_job` have none. When a refusal is given is what the definitions say, to which these four are proved equal. The rest is said here, of every record, sound
-- or not. (What an event refused in a job leaves is `breaks`, crates/driver.) The proofs are in proofs/Demand1.antt. Quotations without a source are of
-- document 01.
use Rattle.std.specs.Prelude.{true, false, List, [], ◌∷◌, ◌≡◌, ℕ, eqb, ltb, length}
use Rattle.address.specs.declared.number.Direction.TheVariants.{Write}
use Rattle.controller.specs.Access.{read_of, write_of}
use Rattle.controller.specs.Event.{event_of}
use Rattle.controller.specs.Reply.{Outcome}
use Rattle.controller.specs.declared.record.Controller.{Controller}
use Rattle.driver.specs.Run.{Report, job_of}
use Rattle.notation.specs.Choice.{among}
use Rattle.notation.specs.Overlay.{laid}
use Rattle.service.specs.declared.job.Job.{Job}

-- The table of refusals, from the top. Of its lines a read is given these and no other:
abbrev pub read_refusals : List ℕ
read_refusals = 1 ∷ 10 ∷ 9 ∷ 3 ∷ 7 ∷ []

-- a write these:
abbrev pub write_refusals : List ℕ
write_refusals = 1 ∷ 10 ∷ 9 ∷ 3 ∷ 4 ∷ 5 ∷ 6 ∷ 7 ∷ []

-- an event these:
abbrev pub event_refusals : List ℕ
event_refusals = 1 ∷ 2 ∷ 10 ∷ 8 ∷ []

-- What an access of, or event at, the record c comes to.
pub record AccessAnswered (c : Controller) (refusals : List ℕ) (o : Outcome) : Type 0 where
  -- it is accepted (0), or refused with one of these numbers
  pub number : among o.refused (0 ∷ refusals) ≡ true
  -- refused: "The value returned is 0 and the whole record stays"
  pub stays : ltb 0 o.refused ≡ true → (o.next ≡ c) × (o.value ≡ 0)

-- The table of a job's answers.
abbrev pub job_answers : List ℕ
job_answers = 21 ∷ 22 ∷ 0 ∷ 23 ∷ 24 ∷ 25 ∷ 26 ∷ 29 ∷ 28 ∷ 27 ∷ []

-- What a job on the record c comes to, with these bytes in the caller's destination and out record before it. After it they are `laid r.handed destination`
-- and `laid r.sent out`, as `run_job` promises: the lent buffer with these bytes over its first ones, its rest as it was.
pub record JobAnswered (job : Job) (c : Controller) (destination out : List ℕ) (r : Report) : Type 0 where
  pub answer : among r.result.answer job_answers ≡ true
  -- 28: "the model refused the event; its number beside it (0 for every other answer)". Of an event's numbers 10 is not given: a job's record is sound.
  pub beside : eqb r.result.answer 28 ≡ true → among r.result.refused (1 ∷ 2 ∷ 8 ∷ []) ≡ true
  pub none_beside : eqb r.result.answer 28 ≡ false → r.result.refused ≡ 0
  -- 21 and 22: "both leave everything as it was", the record, the destination and the out record
  pub declined : among r.result.answer (21 ∷ 22 ∷ []) ≡ true →
      (r.result.next ≡ c) × (laid r.handed destination ≡ destination) × (laid r.sent out ≡ out)
  -- "A read job that isn't done leaves the caller's destination untouched." (demand 1): byte for byte
  pub not_done : eqb r.result.answer 0 ≡ false → laid r.handed destination ≡ destination
  -- and no write touches it
  pub of_write : job.direction ≡ Write → laid r.handed destination ≡ destination

-- every read, write and event, and every job with whatever data, destination, out record and script
pub record Demand1 : Type 0 where
  pub read : (c : Controller) (register : ℕ) → AccessAnswered c read_refusals (read_of c register)
  pub write : (c : Controller) (register value : ℕ) → AccessAnswered c write_refusals (write_of c register value)
  pub event : (c : Controller) (number argument : ℕ) → AccessAnswered c event_refusals (event_of c number argument)
  pub jobs : (job : Job) (payload destination out script : List ℕ) (c : Controller) →
      JobAnswered job c destination out (job_of job payload (length destination) (length out) script c)
