-- Document 01, Writing I2CCON: where a write with ENSIO 1 leads, or that it is not listed.
use Rattle.std.specs.Prelude.{[], ◌∷◌, ℕ, Option, Some, None}
use Rattle.control.specs.Turn.{off, host, waits, status_of, edge_of}
use Rattle.control.specs.declared.flags.Control.{Control}
use Rattle.control.specs.declared.turn.Called.TheVariants.{Own, General}
use Rattle.control.specs.declared.turn.Edge.TheVariants.{Stop, Start}
use Rattle.control.specs.declared.turn.Edge.{Edge}
use Rattle.control.specs.declared.turn.Turn.TheVariants.{Host, Free, Busy, Listen}
use Rattle.control.specs.declared.turn.Turn.TheVariants.{Address, Send, Receive, SlaveReceive, SlaveSend, Stopping, Restarting}
use Rattle.control.specs.declared.turn.Turn.{Turn}
use Rattle.notation.specs.Choice.{when◌then◌else◌, ◌or◌, among}

-- 18h, 20h, 28h, 30h, 48h, 58h: "STA Restarting; STO Stopping; both Stopping", and `otherwise` where neither is set
unfoldable pub end_or : Control → Option Turn → Option Turn
end_or k otherwise =
    when k.sto then Some Stopping
    else when k.sta then Some Restarting
    else otherwise

-- A0h: "Free after a STOP, Listen after a START"
unfoldable pub after_edge : Edge → Turn
after_edge Stop = Free
after_edge Start = Listen

-- "by the status before it". What is not listed is refused 5; at 00h, 70h and 78h a write is refused 4 before that. At 38h "SI stays 1 and status
-- 38h" (document 02, request 2): the turn stays.
unfoldable pub responds_at : ℕ → Edge → Control → Option Turn
responds_at status edge k =
    when among status (0x08 ∷ 0x10 ∷ []) then (when k.mode then None else Some Address)
    else when among status (0x18 ∷ 0x20 ∷ 0x28 ∷ 0x30 ∷ []) then end_or k (Some Send)
    else when among status (0x40 ∷ 0x50 ∷ []) then (when k.sta or k.sto then None else Some Receive)
    else when among status (0x48 ∷ 0x58 ∷ []) then end_or k None
    else when among status (0x38 ∷ []) then Some (Host 0x38 edge)
    else when among status (0x60 ∷ 0x68 ∷ 0x80 ∷ []) then Some (SlaveReceive Own)
    else when among status (0xD0 ∷ 0xD8 ∷ 0xE0 ∷ []) then Some (SlaveReceive General)
    else when among status (0x88 ∷ 0xC0 ∷ 0xC8 ∷ 0xE8 ∷ []) then Some Busy
    else when among status (0xA0 ∷ []) then Some (after_edge edge)
    else when among status (0xA8 ∷ 0xB0 ∷ 0xB8 ∷ []) then Some SlaveSend
    else None

-- "ENSIO 1 from Off leads to Free. Otherwise, by the status before it"; "F8h: the turn stays"
unfoldable pub response : Turn → Control → Option Turn
response turn k =
    when waits turn (off ∷ []) then Some Free
    else when waits turn (host ∷ []) then responds_at (status_of turn) (edge_of turn) k
    else Some turn
