-- Document 01, The controller record: what a record holds, and when it is sound. The struct itself is in src/record.rt.
use Rattle.std.specs.Prelude.{Bool, true, List, [], ◌∷◌, ℕ, ◌/◌, ◌%◌, eqb, leb, ltb, get_or}
use Rattle.control.specs.Turn.{host, data_turns, waits, status_of}
use Rattle.control.specs.declared.turn.Turn.{Turn}
use Rattle.controller.specs.declared.record.Controller.{Controller}
use Rattle.notation.specs.Choice.{when◌then◌else◌, ◌and◌, among}

-- "The buffer holds 68 bytes, numbered 0 to 67": the byte at a place
abbrev pub place : Controller → ℕ → ℕ
place c i = get_or c.buffer i 0

-- I2CCOUNT: "LB bit 7, BC below"
abbrev pub byte_count : Controller → ℕ
byte_count c = c.registers.count % 128

-- LB
abbrev pub last_byte : Controller → Bool
last_byte c = eqb (c.registers.count / 128) 1

-- I2CTO: "TE bit 7"
abbrev pub timeout_enabled : Controller → Bool
timeout_enabled c = eqb (c.registers.timeout / 128) 1

-- SI is 1 exactly in Host
abbrev pub interrupts : Controller → Bool
interrupts c = waits c.turn (host ∷ [])

-- "a Host status one the rules give": the 28 that some event gives
abbrev pub given_statuses : List ℕ
given_statuses =
    0x00 ∷ 0x08 ∷ 0x10 ∷ 0x18 ∷ 0x20 ∷ 0x28 ∷ 0x30 ∷ 0x38 ∷ 0x40 ∷ 0x48 ∷ 0x50 ∷ 0x58 ∷ 0x60 ∷ 0x68 ∷ 0x70 ∷ 0x78 ∷ 0x80 ∷ 0x88 ∷
    0xA0 ∷ 0xA8 ∷ 0xB0 ∷ 0xB8 ∷ 0xC0 ∷ 0xC8 ∷ 0xD0 ∷ 0xD8 ∷ 0xE0 ∷ 0xE8 ∷ []

-- a turn that is not Host has no status to ask about
unfoldable pub host_sound : Turn → Bool
host_sound turn = when waits turn (host ∷ []) then among (status_of turn) given_statuses else true

-- "in Send, Receive, SlaveReceive and SlaveSend moved is 0 with MODE 0, and with MODE 1 below BC, BC at most 68"
unfoldable pub move_sound : Controller → Bool
move_sound c =
    when waits c.turn data_turns
    then (when c.control.mode then ltb c.moved (byte_count c) and leb (byte_count c) 68 else eqb c.moved 0)
    else true

-- "A record is sound when the pointer is at most 7, hand and moved at most 68, I2CMODE at most 3", and the two above hold
unfoldable pub sound : Controller → Bool
sound c =
    leb c.pointer 7 and leb c.hand 68 and leb c.moved 68 and leb c.registers.speed 3 and
    host_sound c.turn and move_sound c
