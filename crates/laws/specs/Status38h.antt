-- Document 02, request 2: "Status 38h isn't over when we say so." What is claimed of a sound record at 38h. (Of one that is not sound nothing but event
-- 14 is accepted, by refusal 10.) The proof is in proofs/Status38h.antt.
use Rattle.std.specs.Prelude.{true, not, ◌≡◌, ℕ, eqb, ltb}
use Rattle.control.specs.Flags.{flags_of}
use Rattle.control.specs.Turn.{at38h}
use Rattle.control.specs.declared.flags.Control.{Control}
use Rattle.control.specs.declared.turn.Edge.TheVariants.{Stop}
use Rattle.control.specs.declared.turn.Turn.TheVariants.{Off, Free}
use Rattle.control.specs.declared.turn.Turn.{Turn}
use Rattle.controller.specs.Access.{read_of, write_of}
use Rattle.controller.specs.Event.{bad_argument, event_of}
use Rattle.controller.specs.Record.{timeout_enabled, sound}
use Rattle.controller.specs.Registers.{wrote}
use Rattle.controller.specs.Reply.{Outcome, refuses, accepts, with_status}
use Rattle.controller.specs.Reset.{reset}
use Rattle.controller.specs.Setters.{with_hand, with_moved, with_control, with_turn}
use Rattle.controller.specs.declared.record.Controller.{Controller}
use Rattle.laws.specs.SoftwareReset.{resets_by_software}
use Rattle.notation.specs.Choice.{when◌then◌else◌, ◌and◌, ◌or◌}

-- Where a write leads. To Off: "A write with ENSIO 0 still leads to Off", and the 5Ah that completes the software reset. Every other leaves turn and status.
abbrev pub turn_after_write_at38h : Controller → ℕ → ℕ → Turn
turn_after_write_at38h c register value =
    when eqb register 3 and not (flags_of value).ensio then Off
    else when resets_by_software c register value then Off
    else c.turn

-- "stores AA, ENSIO, STA and MODE, never STO"
abbrev pub stored_at38h : Control → Control → Control
stored_at38h old k = record { aa = k.aa; ensio = k.ensio; sta = k.sta; sto = old.sto; mode = k.mode }

-- What any event does. "Another's STOP then leads to Free with F8h; event 12 with TE 1 gives 78h": the turn changes, with 78h the reason too, and
-- nothing else, so hand place and moved count stay. The reset pin resets. Every other is refused, by the first of the lines 1, 2 and 8 that applies.
abbrev pub event_at38h : Controller → ℕ → ℕ → Outcome
event_at38h c number argument =
    when eqb number 0 or ltb 14 number then refuses c 1
    else when bad_argument number argument then refuses c 2
    else when eqb number 3 then accepts (with_turn c Free) 0
    else when eqb number 12 and timeout_enabled c then accepts (with_status c 0x78 Stop) 0
    else when eqb number 14 then accepts (reset c) 0
    else refuses c 8

-- Source 004, 8.9.2: "In order to exit state 38h, a Time-out, Reset, or external STOP are required"; and, by the request, a write with ENSIO 0 leads out too.
pub record Stays38h (c : Controller) : Type 0 where
  pub read : (register : ℕ) → (read_of c register).next.turn ≡ c.turn
  pub write : (register value : ℕ) → (write_of c register value).next.turn ≡ turn_after_write_at38h c register value
  pub event : (number argument : ℕ) → event_of c number argument ≡ event_at38h c number argument
  -- Every byte with ENSIO 1 is accepted, whatever BC is: it stores the flags, puts hand place and moved count back at 0, and disarms the software reset
  -- (`wrote`), as every accepted I2CCON write does. "SI stays 1 and status 38h"
  pub enabling : (value : ℕ) → (flags_of value).ensio ≡ true →
      write_of c 3 value ≡ wrote (with_control (with_moved (with_hand c 0) 0) (stored_at38h c.control (flags_of value)))

-- any sound record at 38h
abbrev pub Status38hStays : Type 0
Status38hStays = (c : Controller) → sound c ≡ true → at38h c.turn ≡ true → Stays38h c
