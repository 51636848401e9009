-- Document 01, Registers and Refusals: a read or write of any register. The refusals come in the table's order: 1, 10, 9, 3, and then
-- those of the register itself.
use Rattle.std.specs.Prelude.{Bool, not, ℕ, eqb, ltb}
use Rattle.control.specs.Flags.{reads_as}
use Rattle.control.specs.Turn.{wire_turns, waits, status_of}
use Rattle.controller.specs.I2ccon.{write_control}
use Rattle.controller.specs.Record.{interrupts, sound}
use Rattle.controller.specs.Registers.{write_pointer, read_data, write_data, at_pointer, write_at_pointer}
use Rattle.controller.specs.Reply.{Outcome, refuses, accepts}
use Rattle.controller.specs.declared.record.Controller.{Controller}
use Rattle.notation.specs.Choice.{when◌then◌else◌, ◌and◌, ◌or◌}

-- register 2, with the pointer at this register
unfoldable pub indirect_at : Controller → ℕ → ℕ → Bool
indirect_at c register pointer = eqb register 2 and eqb c.pointer pointer

-- refusal 3: "wire turn: .. any I2CDAT read"
unfoldable pub bars_read : Controller → ℕ → Bool
bars_read c register = waits c.turn wire_turns and eqb register 1

-- refusal 3: "wire turn: any write but to INDPTR or to register 2 with pointer 05h"
unfoldable pub bars_write : Controller → ℕ → Bool
bars_write c register = not (eqb register 0 or indirect_at c register 5) and waits c.turn wire_turns

-- "Address 0: read I2CSTA .. 1: I2CDAT. 2: the register at the pointer. 3: I2CCON"
-- Refusal 9: "register 2: .. or read with pointer 05h".
unfoldable pub read_sound : Controller → ℕ → Outcome
read_sound c register =
    when indirect_at c register 5 then refuses c 9
    else when bars_read c register then refuses c 3
    else when eqb register 0 then accepts c (status_of c.turn)
    else when eqb register 1 then read_data c
    else when eqb register 2 then accepts c (at_pointer c)
    else accepts c (reads_as c.control (interrupts c))

-- refusal 1: "register over 3"; refusal 10: "the record isn't sound"
unfoldable pub read_of : Controller → ℕ → Outcome
read_of c register =
    when ltb 3 register then refuses c 1
    else when sound c then read_sound c register
    else refuses c 10

-- "Address 0: .. write INDPTR". Refusal 9: "register 2: write with pointer 07h".
unfoldable pub write_sound : Controller → ℕ → ℕ → Outcome
write_sound c register value =
    when indirect_at c register 7 then refuses c 9
    else when bars_write c register then refuses c 3
    else when eqb register 0 then write_pointer c value
    else when eqb register 1 then write_data c value
    else when eqb register 2 then write_at_pointer c value
    else write_control c value

-- refusals 1 and 10, as for a read
unfoldable pub write_of : Controller → ℕ → ℕ → Outcome
write_of c register value =
    when ltb 3 register then refuses c 1
    else when sound c then write_sound c register value
    else refuses c 10
