-- The record with one item changed. Plumbing: each setter gives all items to one maker, so that a new item of the record is one word a
-- line here.
use Rattle.std.specs.Prelude.{Bool, List, ℕ, set}
use Rattle.control.specs.declared.flags.Control.{Control}
use Rattle.control.specs.declared.reason.Reason.{Reason}
use Rattle.control.specs.declared.turn.Turn.{Turn}
use Rattle.controller.specs.declared.record.Controller.{Controller}
use Rattle.controller.specs.declared.record.Registers.{Registers}

-- a record of these parts
abbrev pub made : List ℕ → ℕ → ℕ → ℕ → Bool → Registers → Control → Turn → Reason → Controller
made buffer hand moved pointer armed registers control turn reason = record {
  buffer = buffer;
  hand = hand;
  moved = moved;
  pointer = pointer;
  armed = armed;
  registers = registers;
  control = control;
  turn = turn;
  reason = reason;
}

abbrev pub with_buffer : Controller → List ℕ → Controller
with_buffer c x = made x c.hand c.moved c.pointer c.armed c.registers c.control c.turn c.reason

abbrev pub with_place : Controller → ℕ → ℕ → Controller
with_place c i x = made (set c.buffer i x) c.hand c.moved c.pointer c.armed c.registers c.control c.turn c.reason

abbrev pub with_hand : Controller → ℕ → Controller
with_hand c x = made c.buffer x c.moved c.pointer c.armed c.registers c.control c.turn c.reason

abbrev pub with_moved : Controller → ℕ → Controller
with_moved c x = made c.buffer c.hand x c.pointer c.armed c.registers c.control c.turn c.reason

abbrev pub with_pointer : Controller → ℕ → Controller
with_pointer c x = made c.buffer c.hand c.moved x c.armed c.registers c.control c.turn c.reason

abbrev pub with_armed : Controller → Bool → Controller
with_armed c x = made c.buffer c.hand c.moved c.pointer x c.registers c.control c.turn c.reason

abbrev pub with_registers : Controller → Registers → Controller
with_registers c x = made c.buffer c.hand c.moved c.pointer c.armed x c.control c.turn c.reason

abbrev pub with_control : Controller → Control → Controller
with_control c x = made c.buffer c.hand c.moved c.pointer c.armed c.registers x c.turn c.reason

abbrev pub with_turn : Controller → Turn → Controller
with_turn c x = made c.buffer c.hand c.moved c.pointer c.armed c.registers c.control x c.reason

abbrev pub with_reason : Controller → Reason → Controller
with_reason c x = made c.buffer c.hand c.moved c.pointer c.armed c.registers c.control c.turn x
