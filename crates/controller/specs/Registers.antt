-- Document 01, Registers: INDPTR, I2CDAT and the registers at the pointer. I2CCON is in I2ccon.antt.
use Rattle.std.specs.Prelude.{false, ℕ, ◌+◌, ◌%◌, eqb}
use Rattle.controller.specs.Record.{place}
use Rattle.controller.specs.Setters.{with_place, with_hand, with_pointer, with_armed, with_registers}
use Rattle.controller.specs.Reply.{Outcome, no_value, refuses, accepts}
use Rattle.controller.specs.Reset.{write_preset}
use Rattle.controller.specs.declared.record.Controller.{Controller}
use Rattle.controller.specs.declared.record.Registers.{Registers}
use Rattle.notation.specs.Choice.{when◌then◌else◌}

-- an accepted write that is no A5h to I2CPRESET: it disarms the software reset
unfoldable pub wrote : Controller → Outcome
wrote c = accepts (with_armed c false) no_value

-- "write INDPTR (low three bits)"
unfoldable pub write_pointer : Controller → ℕ → Outcome
write_pointer c value = wrote (with_pointer c (value % 8))

-- "each accepted I2CDAT access .. moves it on by one"; refusal 7: "I2CDAT access with the hand place at 68"
unfoldable pub read_data : Controller → Outcome
read_data c =
    when eqb c.hand 68 then refuses c 7
    else accepts (with_hand c (c.hand + 1)) (place c c.hand)

-- the same for a write: the byte goes to the hand place
unfoldable pub write_data : Controller → ℕ → Outcome
write_data c value =
    when eqb c.hand 68 then refuses c 7
    else wrote (with_hand (with_place c c.hand value) (c.hand + 1))

-- what the register at the pointer reads: 00h to 04h, 06h, and at 07h the moved count (05h is refused 9)
unfoldable pub at_pointer : Controller → ℕ
at_pointer c =
    when eqb c.pointer 0 then c.registers.count
    else when eqb c.pointer 1 then c.registers.own
    else when eqb c.pointer 2 then c.registers.low
    else when eqb c.pointer 3 then c.registers.high
    else when eqb c.pointer 4 then c.registers.timeout
    else when eqb c.pointer 6 then c.registers.speed
    else c.moved

abbrev pub with_count : Registers → ℕ → Registers
with_count g x = record { count = x; own = g.own; low = g.low; high = g.high; timeout = g.timeout; speed = g.speed }

abbrev pub with_own : Registers → ℕ → Registers
with_own g x = record { count = g.count; own = x; low = g.low; high = g.high; timeout = g.timeout; speed = g.speed }

abbrev pub with_low : Registers → ℕ → Registers
with_low g x = record { count = g.count; own = g.own; low = x; high = g.high; timeout = g.timeout; speed = g.speed }

abbrev pub with_high : Registers → ℕ → Registers
with_high g x = record { count = g.count; own = g.own; low = g.low; high = x; timeout = g.timeout; speed = g.speed }

abbrev pub with_timeout : Registers → ℕ → Registers
with_timeout g x = record { count = g.count; own = g.own; low = g.low; high = g.high; timeout = x; speed = g.speed }

abbrev pub with_speed : Registers → ℕ → Registers
with_speed g x = record { count = g.count; own = g.own; low = g.low; high = g.high; timeout = g.timeout; speed = x }

-- the registers after a write at the pointer: 00h to 04h, and 06h "low two bits kept" (05h is I2CPRESET, 07h is refused 9)
unfoldable pub stored : Registers → ℕ → ℕ → Registers
stored g pointer value =
    when eqb pointer 0 then with_count g value
    else when eqb pointer 1 then with_own g value
    else when eqb pointer 2 then with_low g value
    else when eqb pointer 3 then with_high g value
    else when eqb pointer 4 then with_timeout g value
    else with_speed g (value % 4)

-- "2: the register at the pointer", written: I2CPRESET, or a register that is kept
unfoldable pub write_at_pointer : Controller → ℕ → Outcome
write_at_pointer c value =
    when eqb c.pointer 5 then write_preset c value
    else wrote (with_registers c (stored c.registers c.pointer value))
