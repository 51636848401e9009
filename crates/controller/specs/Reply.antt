-- What an access or event answers (document 01, The controller record, and Refusals of an access or event).
use Rattle.std.specs.Prelude.{ℕ}
use Rattle.answer.specs.Refusal.{Answer, refusal_of, value_of}
use Rattle.control.specs.Reason.{reason_of}
use Rattle.control.specs.declared.turn.Edge.TheVariants.{Stop}
use Rattle.control.specs.declared.turn.Edge.{Edge}
use Rattle.control.specs.declared.turn.Turn.TheVariants.{Host}
use Rattle.control.specs.declared.turn.Turn.{Turn}
use Rattle.controller.specs.Setters.{with_turn, with_reason, with_hand}
use Rattle.controller.specs.declared.record.Controller.{Controller}
use Rattle.controller.specs.declared.reply.Reply.{Reply}

-- The next record with the answer in the paper's numbers.
pub record Outcome : Type 0 where
  pub next : Controller
  pub refused : ℕ
  pub value : ℕ

-- a record and an answer, which an access or event left
unfoldable pub outcome : Controller → Answer → Outcome
outcome c answer = record { next = c; refused = refusal_of answer; value = value_of answer }

-- the same of a reply
unfoldable pub outcome_of : Reply → Outcome
outcome_of r = outcome r.controller r.answer

-- refused: "the whole record stays"
unfoldable pub refuses : Controller → ℕ → Outcome
refuses c number = record { next = c; refused = number; value = 0 }

-- accepted, with the next record and the value
unfoldable pub accepts : Controller → ℕ → Outcome
accepts c value = record { next = c; refused = 0; value = value }

-- The value, of what is no read and no event 6: "1 for a NACK in events 5, 7 and 8 (no match is a NACK), else 0". In these three events 0 tells ACK;
-- in every other it tells nothing. (`nack` is event 6's argument too: "argument 0 ACK, 1 NACK".)
abbrev pub ack : ℕ
ack = 0

abbrev pub nack : ℕ
nack = 1

abbrev pub no_value : ℕ
no_value = 0

-- accepted, waiting for something else
unfoldable pub waits_for : Controller → Turn → ℕ → Outcome
waits_for c turn value = accepts (with_turn c turn) value

-- "An event that gives a status leads to Host"; the reason "is set with each new status but F8h" (document 02, request 8)
abbrev pub with_status : Controller → ℕ → Edge → Controller
with_status c status edge = with_reason (with_turn c (Host status edge)) (reason_of status)

-- the hand place goes "back to 0 .. whenever SI becomes 1"
unfoldable pub interrupts_at : Controller → ℕ → Edge → ℕ → Outcome
interrupts_at c status edge value = accepts (with_hand (with_status c status edge) 0) value

-- every status but A0h: the bus condition does not matter there, and `Stop` is written
abbrev pub gives : Controller → ℕ → ℕ → Outcome
gives c status value = interrupts_at c status Stop value

-- another status where SI is 1 already: it does not become 1, and the hand place stays
unfoldable pub changes_status : Controller → ℕ → Outcome
changes_status c status = accepts (with_status c status Stop) no_value
