-- Document 02, request 4, "a plain engine for I2CCON writes": what an entry makes of a write, and the rules beside the table.
use Rattle.std.specs.Prelude.{true, [], ◌∷◌, ◌≡◌, ℕ, Some}
use Rattle.answer.specs.Refusal.{refusal_number}
use Rattle.control.specs.Flags.{flags_of}
use Rattle.control.specs.Turn.{off, host, wire_turns, faults, waits, status_of, edge_of}
use Rattle.control.specs.Writing.{after_edge}
use Rattle.control.specs.declared.flags.Control.{Control}
use Rattle.control.specs.declared.turn.Turn.TheVariants.{Off, Free}
use Rattle.controller.specs.Access.{write_of}
use Rattle.controller.specs.I2ccon.{controlled, enabled, without_start}
use Rattle.controller.specs.Record.{sound}
use Rattle.controller.specs.Reply.{Outcome, refuses}
use Rattle.controller.specs.declared.record.Controller.{Controller}
use Rattle.notation.specs.Choice.{when◌then◌else◌, among}
use Rattle.responses.specs.Table.{entry_at}
use Rattle.responses.specs.declared.entry.Entry.TheVariants.{Never, Beside, Stays, Refused, Next}
use Rattle.responses.specs.declared.entry.Entry.{Entry}

-- "The two ways of A0h, and all that F8h does (Off to Free, refusal 3, the turn kept), are beside the table". In Host the status is A0h here:
-- `entry_at` gives `Beside` at A0h and F8h alone, and no sound record is in Host at F8h. "Free after a STOP, Listen after a START".
unfoldable pub beside_table : Controller → Control → Outcome
beside_table c k =
    when waits c.turn wire_turns then refuses c 3
    else when waits c.turn (off ∷ []) then controlled c k Free
    else when waits c.turn (host ∷ []) then controlled c k (after_edge (edge_of c.turn))
    else controlled c k c.turn

-- what an entry makes of a write with ENSIO 1. A next turn is taken by the controller's own `enabled`, which refuses a BC that is not valid; a record
-- with a status that never occurs is not sound.
unfoldable pub by_entry : Controller → Control → Entry → Outcome
by_entry c k Never = refuses c 10
by_entry c k Beside = beside_table c k
by_entry c k Stays = controlled c k c.turn
by_entry c k (Refused why) = refuses c (refusal_number why)
by_entry c k (Next turn) = enabled c k (Some turn)

-- ENSIO 0, for which there is no table: refusal 3, "wire turn: any write ..", refusal 4, "I2CCON write at 00h, 70h or 78h", or "ENSIO 0 leads to Off with
-- STA 0"
unfoldable pub disabled : Controller → Control → Outcome
disabled c k =
    when waits c.turn wire_turns then refuses c 3
    else when among (status_of c.turn) faults then refuses c 4
    else controlled c (without_start k) Off

-- So the entry for its status and four bits says, of every sound record and every byte with ENSIO 1, what the controller's own write does with it.
abbrev pub EntriesRule : Type 0
EntriesRule =
    (c : Controller) (value : ℕ) → sound c ≡ true → (flags_of value).ensio ≡ true →
    by_entry c (flags_of value) (entry_at (status_of c.turn) (flags_of value)) ≡ write_of c 3 value
