-- From the definitions to the caller's memory, in one statement, `CallersMemory` at the end of this file: what one job, given to two controllers, leaves in the
-- two buffers that each caller lent. The proof, from `laid`, `always-fits` and what demand 3 is shown by, is in proofs/CallersMemory.antt.
--
-- After a call the destination is `laid r.handed destination` and the out record `laid r.sent out`, r being the report of the job: so `run_job` promises.
-- (`laid xs lent` is the lent buffer with xs over its first bytes, its rest as it was.)
use Rattle.std.specs.Prelude.{List, ◌≡◌, ℕ, length, take, drop}
use Rattle.address.specs.declared.number.Direction.TheVariants.{Read}
use Rattle.controller.specs.declared.record.Controller.{Controller}
use Rattle.driver.specs.Run.{Report, job_of}
use Rattle.noninterference.specs.OldBytes.{Item, of_job, step, AlikeButForPlaces}
use Rattle.notation.specs.Overlay.{laid}
use Rattle.runs.specs.OneRun.{carried}
use Rattle.service.specs.declared.job.Job.{Job}

-- Two lent buffers, after these bytes were laid over the one and those over the other.
pub record SameFirstBytes (bytes bytes' lent lent' : List ℕ) : Type 0 where
  -- as many first bytes as were laid over are the same in both
  pub first : take (length bytes) (laid bytes lent) ≡ take (length bytes) (laid bytes' lent')
  -- and are the bytes that were handed up or sent
  pub whole : take (length bytes) (laid bytes lent) ≡ bytes
  -- all others are each caller's own, as they were
  pub rest : drop (length bytes) (laid bytes lent) ≡ drop (length bytes) lent
  pub rest' : drop (length bytes) (laid bytes' lent') ≡ drop (length bytes) lent'

-- What two calls of one job with one script have in common.
pub record SameCalls (job : Job) (script destination destination' out out' : List ℕ) (r r' : Report) : Type 0 where
  -- what is compared of a job in demand 3: "its answer, the number beside it, its count, events used, bytes sent and bytes handed up" (document 01)
  pub seen : (of_job r).seen ≡ (of_job r').seen
  pub destinations : SameFirstBytes r.handed r'.handed destination destination'
  pub outs : SameFirstBytes r.sent r'.sent out out'
  -- where the job is a finished read, the first bytes of the destination are those that the bus carried
  pub carried_bytes : job.direction ≡ Read → r.result.answer ≡ 0 → take (length r.handed) (laid r.handed destination) ≡ carried script
  -- the records left differ in their places alone again
  pub next : AlikeButForPlaces r.result.next r'.result.next

-- So does every item of demand 3's list leave them: what comes between two jobs changes nothing of this.
abbrev pub StaysAlike : Type 0
StaysAlike = (i : Item) (c c' : Controller) → AlikeButForPlaces c c' → AlikeButForPlaces (step i c).next (step i c').next

-- Two calls of the same job, with buffers of the same lengths and whatever contents, on two records alike but for the 68 places.
abbrev pub CallersMemory : Type 0
CallersMemory = (job : Job) (payload script destination destination' out out' : List ℕ) (c c' : Controller) →
    AlikeButForPlaces c c' → length destination ≡ length destination' → length out ≡ length out' →
    SameCalls job script destination destination' out out'
    (job_of job payload (length destination) (length out) script c) (job_of job payload (length destination') (length out') script c')
