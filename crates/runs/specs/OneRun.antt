-- Laws of one run of a job, whatever the job, script and record (its buffer is a list here, so that it has 68 places is said). These are
-- the statements; `always-fits` (proofs/Fits.antt), `one-byte-each` (proofs/OneByteEach.antt), `hands_up_so_many`
-- (proofs/HandsUpSoMany.antt), `leaves-pointer` (proofs/Pointer.antt), `lost-held` (proofs/LostJobs.antt) and `none-begins`
-- (proofs/NoneBegins.antt) say that they hold. `carried` is for demand 3.
use Rattle.std.specs.Prelude.{true, false, List, [], ◌∷◌, ◌≡◌, ℕ, zero, suc, ◌+◌, ◌≤◌, eqb, length}
use Rattle.address.specs.Number.{bit_of}
use Rattle.control.specs.Turn.{at38h}
use Rattle.controller.specs.declared.record.Controller.{Controller}
use Rattle.driver.specs.Run.{Report, declines, job_of}
use Rattle.notation.specs.Choice.{when◌then◌else◌, ◌and◌}
use Rattle.service.specs.Request.{malformed, ready}
use Rattle.service.specs.declared.job.Job.{Job}

-- what a job sends and hands up fits into what was lent, and a byte holds how many it sent: "The out record begins with those and its
-- rest stays. The destination's first n bytes are written .."
pub record Fits (destination_length out_length : ℕ) (r : Report) : Type 0 where
  pub sent : length r.sent ≤ out_length
  pub handed : length r.handed ≤ destination_length
  pub few : length r.sent ≤ 69

abbrev pub AlwaysFits : Type 0
AlwaysFits = (job : Job) (payload : List ℕ) (destination_length out_length : ℕ) (script : List ℕ) (c : Controller) →
    length c.buffer ≡ 68 → Fits destination_length out_length (job_of job payload destination_length out_length script c)

-- how many of the first so many pairs are event 6
unfoldable pub sent_count : ℕ → List ℕ → ℕ
sent_count zero script = 0
sent_count (suc events) [] = 0
sent_count (suc events) (event ∷ []) = 0
sent_count (suc events) (event ∷ argument ∷ rest) = when eqb event 6 then sent_count events rest + 1 else sent_count events rest

-- "the bytes sent, one for each accepted event 6"
abbrev pub OneByteEach : Type 0
OneByteEach = (job : Job) (payload : List ℕ) (destination_length out_length : ℕ) (script : List ℕ) (c : Controller) →
    let r = job_of job payload destination_length out_length script c in length r.sent ≡ sent_count r.result.events script

-- "Handed up are the destination's first n bytes for answer 0 of a read, else none": so many (R is 1 for a read)
unfoldable pub handed_count : Job → ℕ → ℕ
handed_count job answer = when eqb answer 0 and eqb (bit_of job.direction) 1 then job.n else 0

abbrev pub HandsUpSoMany : Type 0
HandsUpSoMany = (job : Job) (payload : List ℕ) (destination_length out_length : ℕ) (script : List ℕ) (c : Controller) →
    length c.buffer ≡ 68 →
    let r = job_of job payload destination_length out_length script c in length r.handed ≡ handed_count job r.result.answer

-- "It leaves the pointer at 00h": every job that begins (not answered 21 or 22), whatever its answer
abbrev pub LeavesPointer : Type 0
LeavesPointer = (job : Job) (payload : List ℕ) (destination_length out_length : ℕ) (script : List ℕ) (c : Controller) →
    malformed job (length payload) destination_length out_length (length script) ≡ false → ready c ≡ true → length c.buffer ≡ 68 →
    (job_of job payload destination_length out_length script c).result.next.pointer ≡ 0

-- "For job answer 25 the driver still writes 40h, and the record stays at 38h" (document 02, request 2): status 38h; AA, ENSIO, STA
-- and MODE as 40h stores them; hand place and moved count at 0, as after every accepted I2CCON write
pub record HeldAt38h (c : Controller) : Type 0 where
  pub status : at38h c.turn ≡ true
  pub aa : c.control.aa ≡ false
  pub ensio : c.control.ensio ≡ true
  pub sta : c.control.sta ≡ false
  pub mode : c.control.mode ≡ false
  pub hand : c.hand ≡ 0
  pub moved : c.moved ≡ 0

-- every job answered 25
abbrev pub LostHeld : Type 0
LostHeld = (job : Job) (payload : List ℕ) (destination_length out_length : ℕ) (script : List ℕ) (c : Controller) →
    let r = job_of job payload destination_length out_length script c in r.result.answer ≡ 25 → HeldAt38h r.result.next

-- No job begins at 38h: "turn not Free" is 22, and 21 comes before it; "both leave everything as it was".
abbrev pub NoneBegins : Type 0
NoneBegins = (job : Job) (payload : List ℕ) (destination_length out_length : ℕ) (script : List ℕ) (c : Controller) →
    at38h c.turn ≡ true →
    job_of job payload destination_length out_length script c ≡
    (when malformed job (length payload) destination_length out_length (length script) then declines c 21 else declines c 22)

-- "What the bus carried in it are the arguments of the event 7 pairs before its script's first event 4, .. in script order."
unfoldable pub carried : List ℕ → List ℕ
carried [] = []
carried (event ∷ []) = []
carried (event ∷ argument ∷ rest) =
    when eqb event 4 then [] else when eqb event 7 then argument ∷ carried rest else carried rest
