-- Document 01, Events 1 to 5 and 8 to 13: bus conditions and address bytes. What is not expected is refused 8.
use Rattle.std.specs.Prelude.{Bool, false, [], ◌∷◌, ℕ, ltb}
use Rattle.address.specs.Matching.{match_of}
use Rattle.address.specs.declared.matching.AddressMatch.{AddressMatch}
use Rattle.address.specs.declared.matching.Match.TheVariants.{Own, General, Nothing}
use Rattle.address.specs.declared.matching.Match.{Match}
use Rattle.address.specs.declared.number.Direction.TheVariants.{Write, Read}
use Rattle.control.specs.Turn.{off, host, free, busy, listen, address, send, receive, slave_receive, stopping, restarting, wire_turns, waits, at38h}
use Rattle.control.specs.declared.flags.Control.{Control}
use Rattle.control.specs.declared.turn.Edge.TheVariants.{Stop, Start}
use Rattle.control.specs.declared.turn.Turn.TheVariants.{Free, Busy, Listen}
use Rattle.controller.specs.Record.{place, timeout_enabled}
use Rattle.controller.specs.Setters.{with_control}
use Rattle.controller.specs.Reply.{Outcome, ack, nack, no_value, refuses, accepts, waits_for, interrupts_at, gives, changes_status}
use Rattle.controller.specs.declared.record.Controller.{Controller}
use Rattle.notation.specs.Choice.{when◌then◌else◌, ◌and◌, ◌or◌}

-- "Free with STA", waiting to send a START
abbrev pub wants_bus : Controller → Bool
wants_bus c = waits c.turn (free ∷ []) and c.control.sta

-- 1. "Own START. Free with STA: 08h. Restarting: 10h."
unfoldable pub own_start : Controller → Outcome
own_start c =
    when wants_bus c then gives c 0x08 no_value
    else when waits c.turn (restarting ∷ []) then gives c 0x10 no_value
    else refuses c 8

-- 2. "Another's START. Free, Busy: Listen. Restarting: 10h. SlaveReceive: A0h."
unfoldable pub other_start : Controller → Outcome
other_start c =
    when waits c.turn (free ∷ busy ∷ []) then waits_for c Listen no_value
    else when waits c.turn (restarting ∷ []) then gives c 0x10 no_value
    else when waits c.turn (slave_receive ∷ []) then interrupts_at c 0xA0 Start no_value
    else refuses c 8

-- 3. "Another's STOP. Busy: Free. SlaveReceive: A0h."; at 38h it "leads to Free with F8h" (document 02, request 2)
unfoldable pub other_stop : Controller → Outcome
other_stop c =
    when waits c.turn (busy ∷ []) then waits_for c Free no_value
    else when waits c.turn (slave_receive ∷ []) then interrupts_at c 0xA0 Stop no_value
    else when at38h c.turn then waits_for c Free no_value
    else refuses c 8

-- STO 0, the other flags as they were
abbrev pub without_stop : Control → Control
without_stop k = record { aa = k.aa; ensio = k.ensio; sta = k.sta; sto = false; mode = k.mode }

-- 4. "Own STOP. Stopping: Free, STO 0."
unfoldable pub own_stop : Controller → Outcome
own_stop c =
    when waits c.turn (stopping ∷ []) then waits_for (with_control c (without_stop c.control)) Free no_value
    else refuses c 8

-- what the match answers for an address byte on the bus: what it calls, and its address
abbrev pub match_on_bus : Controller → ℕ → AddressMatch
match_on_bus c byte = match_of c.registers.own c.control.aa (record { 0 = byte })

-- what the byte calls, by which events 5 and 8 go
abbrev pub matches : Controller → ℕ → Match
matches c byte = (match_on_bus c byte).call

-- 5. the codes: D0h, 60h, "or A8h for R 1. Else Busy. The three codes mean ACK"; "no match is a NACK"
unfoldable pub addressed : Controller → Match → Outcome
addressed c General = gives c 0xD0 ack
addressed c (Own Write) = gives c 0x60 ack
addressed c (Own Read) = gives c 0xA8 ack
addressed c Nothing = waits_for c Busy nack

-- 5. "Address byte, in Listen."
unfoldable pub address_byte : Controller → ℕ → Outcome
address_byte c byte = when waits c.turn (listen ∷ []) then addressed c (matches c byte) else refuses c 8

-- 8. the codes: "Matched as in 5 it gives 68h, B0h or D8h, else 38h"; ACK and NACK as in 5
unfoldable pub outbid : Controller → Match → Outcome
outbid c General = gives c 0xD8 ack
outbid c (Own Write) = gives c 0x68 ack
outbid c (Own Read) = gives c 0xB0 ack
outbid c Nothing = gives c 0x38 nack

-- 8. "Arbitration lost in Address, argument the winner's byte. Expected only if it is smaller than ours"
unfoldable pub address_lost : Controller → ℕ → Outcome
address_lost c byte =
    when waits c.turn (address ∷ []) and ltb byte (place c 0) then outbid c (matches c byte) else refuses c 8

-- 9. "Arbitration lost in Send or Receive: 38h."
unfoldable pub data_lost : Controller → Outcome
data_lost c = when waits c.turn (send ∷ receive ∷ []) then gives c 0x38 no_value else refuses c 8

-- 10. "START or STOP at an illegal place. Wire turns: 00h. Free, Busy, Listen: accepted, no change"
unfoldable pub illegal_edge : Controller → Outcome
illegal_edge c =
    when waits c.turn wire_turns then gives c 0x00 no_value
    else when waits c.turn (free ∷ busy ∷ listen ∷ []) then accepts c no_value
    else refuses c 8

-- 11. "SDA held after nine clocks. Free with STA, or Restarting: 70h."
unfoldable pub data_held : Controller → Outcome
data_held c = when wants_bus c or waits c.turn (restarting ∷ []) then gives c 0x70 no_value else refuses c 8

-- 12. "SCL low past the time-out, TE 1: 78h"; with SI 0 and not in Off. At 38h "event 12 with TE 1 gives 78h" (document 02, request 2)
unfoldable pub clock_held : Controller → Outcome
clock_held c =
    when at38h c.turn and timeout_enabled c then changes_status c 0x78
    else when waits c.turn (off ∷ host ∷ []) then refuses c 8
    else when timeout_enabled c then gives c 0x78 no_value
    else refuses c 8

-- 13. "Idle past the time-out, TE and STA 1, in Busy or Listen: 08h."
unfoldable pub idle : Controller → Outcome
idle c =
    when timeout_enabled c and c.control.sta and waits c.turn (busy ∷ listen ∷ []) then gives c 0x08 no_value else refuses c 8
