-- Document 01, Events 6 and 7: a byte out and a byte in, in Byte mode and in Buffered mode.
use Rattle.std.specs.Prelude.{Bool, true, not, [], ◌∷◌, ℕ, ◌+◌, eqb}
use Rattle.address.specs.Number.{direction_of}
use Rattle.address.specs.declared.number.Direction.TheVariants.{Write, Read}
use Rattle.address.specs.declared.number.Direction.{Direction}
use Rattle.control.specs.Turn.{address, send, receive, slave_receive, slave_send, waits, called_of}
use Rattle.control.specs.declared.turn.Called.TheVariants.{Own, General}
use Rattle.control.specs.declared.turn.Called.{Called}
use Rattle.controller.specs.Record.{place, byte_count, last_byte}
use Rattle.controller.specs.Setters.{with_place, with_moved}
use Rattle.controller.specs.Reply.{Outcome, ack, nack, refuses, accepts, gives}
use Rattle.controller.specs.declared.record.Controller.{Controller}
use Rattle.notation.specs.Choice.{when◌then◌else◌}

-- "In Byte mode events 6 and 7 move place 0 .. In Buffered mode they move place 0, then 1, and so on"
unfoldable pub cursor : Controller → ℕ
cursor c = when c.control.mode then c.moved else 0

-- this byte ends the move: always in Byte mode, in Buffered mode "when moved = BC", this byte counted
unfoldable pub is_last : Controller → Bool
is_last c = when c.control.mode then eqb (c.moved + 1) (byte_count c) else true

abbrev pub counted : Controller → Controller
counted c = with_moved c (c.moved + 1)

-- a data byte out: "Sending ends at the first NACK or when moved = BC .. Before the end no status is set"
unfoldable pub data_out : Controller → ℕ → ℕ → ℕ → Outcome
data_out c argument nack_at done_at =
    when eqb argument nack then gives (counted c) nack_at (place c (cursor c))
    else when is_last c then gives (counted c) done_at (place c (cursor c))
    else accepts (counted c) (place c (cursor c))

-- the address byte out, place 0: "18h/20h, for R 1 40h/48h"
unfoldable pub address_status : Direction → ℕ → ℕ
address_status Write argument = when eqb argument nack then 0x20 else 0x18
address_status Read argument = when eqb argument nack then 0x48 else 0x40

-- R of the address byte, which is place 0
abbrev pub sent_direction : Controller → Direction
sent_direction c = direction_of (record { 0 = place c 0 })

-- 6. "Byte out, argument 0 ACK, 1 NACK; the answer gives the byte." SlaveSend: "ACK gives C8h with AA 0, else B8h"
unfoldable pub byte_out : Controller → ℕ → Outcome
byte_out c argument =
    when waits c.turn (address ∷ []) then gives c (address_status (sent_direction c) argument) (place c 0)
    else when waits c.turn (send ∷ []) then data_out c argument 0x30 0x28
    else when waits c.turn (slave_send ∷ []) then data_out c argument 0xC0 (when c.control.aa then 0xB8 else 0xC8)
    else refuses c 8

-- the last byte of a move is acknowledged: in Byte mode "exactly when AA is 1", in Buffered mode "exactly when LB is 0"
unfoldable pub acknowledges_last : Controller → Bool
acknowledges_last c = when c.control.mode then not (last_byte c) else c.control.aa

-- the byte stored at its place, and counted: "No other place of the buffer is touched"
unfoldable pub received : Controller → ℕ → Controller
received c byte = counted (with_place c (cursor c) byte)

-- a data byte in: "Receiving ACKs all but the last"; "the answer tells ACK or NACK"
unfoldable pub data_in : Controller → ℕ → ℕ → ℕ → Outcome
data_in c byte ack_at nack_at =
    when is_last c
    then (when acknowledges_last c then gives (received c byte) ack_at ack else gives (received c byte) nack_at nack)
    else accepts (received c byte) ack

-- 7. "own SlaveReceive 80h/88h, General Call E0h/E8h"
unfoldable pub slave_in : Controller → ℕ → Called → Outcome
slave_in c byte Own = data_in c byte 0x80 0x88
slave_in c byte General = data_in c byte 0xE0 0xE8

-- 7. "Byte in; the answer tells ACK or NACK. Receive 50h/58h"
unfoldable pub byte_in : Controller → ℕ → Outcome
byte_in c byte =
    when waits c.turn (receive ∷ []) then data_in c byte 0x50 0x58
    else when waits c.turn (slave_receive ∷ []) then slave_in c byte (called_of c.turn)
    else refuses c 8
