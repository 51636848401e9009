-- Document 02, request 8: "It is set with each new status but F8h, and by a reset, and otherwise kept." What is claimed of the reason, of any record,
-- sound or not. The proofs are in proofs/Reasons.antt.
use Rattle.std.specs.Prelude.{true, ◌≡◌, ℕ, eqb, ltb}
use Rattle.control.specs.Reason.{reason_of}
use Rattle.control.specs.Turn.{status_of}
use Rattle.control.specs.declared.reason.Reason.TheVariants.{Reset}
use Rattle.control.specs.declared.reason.Reason.{Reason}
use Rattle.controller.specs.Access.{read_of, write_of}
use Rattle.controller.specs.Event.{event_of}
use Rattle.controller.specs.Record.{interrupts}
use Rattle.controller.specs.Reply.{Outcome}
use Rattle.controller.specs.Reset.{fresh}
use Rattle.controller.specs.declared.record.Controller.{Controller}
use Rattle.laws.specs.SoftwareReset.{resets_by_software}
use Rattle.notation.specs.Choice.{when◌then◌else◌}

-- After an event. A refused one keeps it, with all else. The reset pin sets `Reset`. An accepted event that gives a status leads to Host and sets that
-- status's; every other keeps it.
abbrev pub reason_after_event : Controller → ℕ → Outcome → Reason
reason_after_event c number o =
    when ltb 0 o.refused then c.reason
    else when eqb number 14 then Reset
    else when interrupts o.next then reason_of (status_of o.next.turn)
    else c.reason

-- After a write. A refused one keeps it. The one that completes the software reset sets `Reset`; every other keeps it, an I2CCON write too, also at 38h and
-- with ENSIO 0.
abbrev pub reason_after_write : Controller → ℕ → ℕ → Outcome → Reason
reason_after_write c register value o =
    when ltb 0 o.refused then c.reason
    else when resets_by_software c register value then Reset
    else c.reason

pub record ReasonAfter (c : Controller) : Type 0 where
  pub event : (number argument : ℕ) → (event_of c number argument).next.reason ≡ reason_after_event c number (event_of c number argument)
  pub write : (register value : ℕ) → (write_of c register value).next.reason ≡ reason_after_write c register value (write_of c register value)
  -- no read sets it
  pub read : (register : ℕ) → (read_of c register).next.reason ≡ c.reason

-- any record
abbrev pub ReasonsFollow : Type 0
ReasonsFollow = (c : Controller) → ReasonAfter c

-- Whenever SI is 1, the reason is that of the status that I2CSTA shows.
abbrev pub ReasonOfStatus : Controller → Type 0
ReasonOfStatus c = interrupts c ≡ true → c.reason ≡ reason_of (status_of c.turn)

-- So it is in the fresh controller, and each event, write and read, accepted or refused, leaves it so.
pub record ReasonAgrees : Type 0 where
  pub fresh-agrees : ReasonOfStatus fresh
  pub event : (c : Controller) (number argument : ℕ) → ReasonOfStatus c → ReasonOfStatus (event_of c number argument).next
  pub write : (c : Controller) (register value : ℕ) → ReasonOfStatus c → ReasonOfStatus (write_of c register value).next
  pub read : (c : Controller) (register : ℕ) → ReasonOfStatus c → ReasonOfStatus (read_of c register).next
