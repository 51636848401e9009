-- Document 01, Registers: "After reset", and the software reset.
use Rattle.std.specs.Prelude.{Bool, false, List, ℕ, eqb, replicate}
use Rattle.control.specs.declared.reason.Reason.TheVariants.{NoneYet, Reset}
use Rattle.control.specs.declared.reason.Reason.{Reason}
use Rattle.control.specs.declared.turn.Turn.TheVariants.{Off}
use Rattle.controller.specs.Setters.{with_armed}
use Rattle.controller.specs.Reply.{Outcome, no_value, accepts}
use Rattle.controller.specs.declared.record.Controller.{Controller}
use Rattle.controller.specs.declared.record.Registers.{Registers}
use Rattle.notation.specs.Choice.{when◌then◌else◌, ◌and◌}

-- "I2CCOUNT 01h, I2CADR E0h, 02h 9Dh, 03h 86h, I2CTO FFh, I2CMODE 00h"
abbrev pub reset_registers : Registers
reset_registers = record { count = 0x01; own = 0xE0; low = 0x9D; high = 0x86; timeout = 0xFF; speed = 0x00 }

-- "turn Off, I2CCON 00h, pointer 0, .. hand and moved 0, not armed", over whatever the buffer holds, with this reason
unfoldable pub reset_with : List ℕ → Reason → Controller
reset_with buffer reason = record {
  buffer = buffer;
  hand = 0;
  moved = 0;
  pointer = 0;
  armed = false;
  registers = reset_registers;
  control = record { aa = false; ensio = false; sta = false; sto = false; mode = false };
  turn = Off;
  reason = reason;
}

-- "A reset keeps the buffer"; the reason is set "by a reset" (document 02, request 8)
abbrev pub reset : Controller → Controller
reset c = reset_with c.buffer Reset

-- "The program's fresh controller has all 68 places at zero"; its reason is "none yet" (document 02, request 8)
abbrev pub fresh : Controller
fresh = reset_with (replicate 68 0) NoneYet

-- "5Ah to I2CPRESET as the next accepted write resets"
unfoldable pub completes_reset : Controller → ℕ → Bool
completes_reset c value = c.armed and eqb value 0x5A

-- I2CPRESET: "A5h written to I2CPRESET arms it .. Any other accepted write disarms, but A5h to I2CPRESET arms again"
unfoldable pub write_preset : Controller → ℕ → Outcome
write_preset c value =
    when completes_reset c value then accepts (reset c) no_value
    else accepts (with_armed c (eqb value 0xA5)) no_value
