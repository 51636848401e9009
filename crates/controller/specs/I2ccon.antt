-- Document 01, Writing I2CCON. Where a write with ENSIO 1 leads is `response`, of the crate `control`.
use Rattle.std.specs.Prelude.{Bool, false, [], ◌∷◌, ℕ, eqb, ltb, Option, Some, None}
use Rattle.control.specs.Flags.{flags_of}
use Rattle.control.specs.Turn.{faults, stopping, data_turns, waits, status_of}
use Rattle.control.specs.Writing.{response}
use Rattle.control.specs.declared.flags.Control.{Control}
use Rattle.control.specs.declared.turn.Turn.TheVariants.{Off}
use Rattle.control.specs.declared.turn.Turn.{Turn}
use Rattle.controller.specs.Record.{byte_count}
use Rattle.controller.specs.Setters.{with_hand, with_moved, with_control, with_turn}
use Rattle.controller.specs.Registers.{wrote}
use Rattle.controller.specs.Reply.{Outcome, refuses}
use Rattle.controller.specs.declared.record.Controller.{Controller}
use Rattle.notation.specs.Choice.{when◌then◌else◌, ◌and◌, ◌or◌, among}

-- "stores AA, ENSIO, STA, MODE. STO is stored only where it leads to Stopping"
unfoldable pub keeps : Control → Control → Turn → Control
keeps old k turn = record {
  aa = k.aa;
  ensio = k.ensio;
  sta = k.sta;
  sto = when waits turn (stopping ∷ []) then k.sto else old.sto;
  mode = k.mode;
}

-- an accepted write: hand place and moved count back at 0, then the flags stored, then the next turn, which clears SI unless it is Host (at 38h alone)
unfoldable pub controlled : Controller → Control → Turn → Outcome
controlled c k turn =
    let rewound = with_moved (with_hand c 0) 0 in
    let flagged = with_control rewound (keeps c.control k turn) in
    wrote (with_turn flagged turn)

-- refusal 6: "that write would start a buffered data move and BC is not 1..68"
unfoldable pub bad_count : Controller → Control → Turn → Bool
bad_count c k turn = k.mode and waits turn data_turns and (eqb (byte_count c) 0 or ltb 68 (byte_count c))

-- with ENSIO 1: refusals 5 and 6, or the next turn
unfoldable pub enabled : Controller → Control → Option Turn → Outcome
enabled c k None = refuses c 5
enabled c k (Some turn) = when bad_count c k turn then refuses c 6 else controlled c k turn

-- "ENSIO 0 leads to Off with STA 0"
abbrev pub without_start : Control → Control
without_start k = record { aa = k.aa; ensio = k.ensio; sta = false; sto = k.sto; mode = k.mode }

-- refusal 4: "I2CCON write at 00h, 70h or 78h"
unfoldable pub write_flags : Controller → Control → Outcome
write_flags c k =
    when among (status_of c.turn) faults then refuses c 4
    else when k.ensio then enabled c k (response c.turn k)
    else controlled c (without_start k) Off

-- "3: I2CCON", written with any byte
unfoldable pub write_control : Controller → ℕ → Outcome
write_control c value = write_flags c (flags_of value)
