-- Document 02, request 8, after a job: the reason in the record that an answer leaves. The status at which the job ends sets it, or the reset; the
-- driver's writes and own STOP keep it. `leaves-reason` (proofs/ReasonLeft.antt) says that it is so.
use Rattle.std.specs.Prelude.{true, List, [], ◌∷◌, ◌≡◌, ℕ, eqb, length}
use Rattle.address.specs.declared.number.Direction.TheVariants.{Write, Read}
use Rattle.address.specs.declared.number.Direction.{Direction}
use Rattle.control.specs.declared.reason.Reason.TheVariants.{CountReached, Nack, ArbitrationLost, Fault, Reset}
use Rattle.control.specs.declared.reason.Reason.{Reason}
use Rattle.controller.specs.declared.record.Controller.{Controller}
use Rattle.driver.specs.Run.{job_of}
use Rattle.notation.specs.Choice.{when◌then◌else◌, among}
use Rattle.service.specs.declared.job.Job.{Job}

-- The answers of a job that came to its end. (21 and 22 "leave everything as it was", by `declines` in crates/driver. 27 and 28 can come anywhere in a
-- job, and nothing is claimed of them here.)
abbrev pub end_answers : List ℕ
end_answers = 0 ∷ 23 ∷ 24 ∷ 25 ∷ 26 ∷ 29 ∷ []

-- 0, "done": a write ends at 28h; a read at 58h, the NACK on its last byte
abbrev pub reason_done : Direction → Reason
reason_done Write = CountReached
reason_done Read = Nack

-- 23, "address NACKed (20h, 48h)"; 24, "30h"; 25, "38h"; 26, "00h, 70h, 78h"; 29, "event 14 came", and of no other answer is this claimed
unfoldable pub reason_left : Direction → ℕ → Reason
reason_left direction answer =
    when eqb answer 0 then reason_done direction
    else when among answer (23 ∷ 24 ∷ []) then Nack
    else when eqb answer 25 then ArbitrationLost
    else when eqb answer 26 then Fault
    else Reset

-- every job with such an answer, whatever the script and the record (its buffer is a list here, so that it has 68 places is said)
abbrev pub LeavesReason : Type 0
LeavesReason = (job : Job) (payload : List ℕ) (destination_length out_length : ℕ) (script : List ℕ) (c : Controller) →
    length c.buffer ≡ 68 →
    let r = (job_of job payload destination_length out_length script c).result in
    among r.answer end_answers ≡ true → r.next.reason ≡ reason_left job.direction r.answer
