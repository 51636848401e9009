-- The turn and the reason as numbers in the record's bytes (document 01, The controller record; document 02, request 8).
use Rattle.std.specs.Prelude.{Bool, ℕ, eqb, ltb}
use Rattle.control.specs.Turn.{off, host, free, busy, listen, address, send, receive, slave_receive, slave_send, stopping, restarting}
use Rattle.control.specs.declared.reason.Reason.TheVariants.{NoneYet, CountReached, Nack, Outside, ArbitrationLost, Fault, Reset}
use Rattle.control.specs.declared.reason.Reason.{Reason}
use Rattle.control.specs.declared.turn.Called.TheVariants.{Own, General}
use Rattle.control.specs.declared.turn.Called.{Called}
use Rattle.control.specs.declared.turn.Edge.TheVariants.{Stop, Start}
use Rattle.control.specs.declared.turn.Edge.{Edge}
use Rattle.control.specs.declared.turn.Turn.TheVariants.{Off, Host, Free, Busy, Listen}
use Rattle.control.specs.declared.turn.Turn.TheVariants.{Address, Send, Receive, SlaveReceive, SlaveSend, Stopping, Restarting}
use Rattle.control.specs.declared.turn.Turn.{Turn}
use Rattle.notation.specs.Choice.{when◌then◌else◌, ◌or◌}

-- "whether a STOP or a START came": 16 more for a START
abbrev pub host_start : ℕ
host_start = 17

-- "SlaveReceive (own or General Call)": 16 more for General Call
abbrev pub slave_general : ℕ
slave_general = 24

unfoldable pub host_number : Edge → ℕ
host_number Stop = host
host_number Start = host_start

unfoldable pub slave_number : Called → ℕ
slave_number Own = slave_receive
slave_number General = slave_general

-- in the paper's order from Off 0 to Restarting 11; the status of Host stands beside it
unfoldable pub turn_number : Turn → ℕ
turn_number Off = off
turn_number (Host status edge) = host_number edge
turn_number Free = free
turn_number Busy = busy
turn_number Listen = listen
turn_number Address = address
turn_number Send = send
turn_number Receive = receive
turn_number (SlaveReceive called) = slave_number called
turn_number SlaveSend = slave_send
turn_number Stopping = stopping
turn_number Restarting = restarting

-- the 14 numbers that a turn has
unfoldable pub is_turn : ℕ → Bool
is_turn k = ltb k 12 or eqb k host_start or eqb k slave_general

-- the turn with this number, and with this status if it is Host; a number that no turn has is read as Off
unfoldable pub turn_for : ℕ → ℕ → Turn
turn_for k status =
    when eqb k host then Host status Stop
    else when eqb k free then Free
    else when eqb k busy then Busy
    else when eqb k listen then Listen
    else when eqb k address then Address
    else when eqb k send then Send
    else when eqb k receive then Receive
    else when eqb k slave_receive then SlaveReceive Own
    else when eqb k slave_send then SlaveSend
    else when eqb k stopping then Stopping
    else when eqb k restarting then Restarting
    else when eqb k host_start then Host status Start
    else when eqb k slave_general then SlaveReceive General
    else Off

-- the reason with this number; a number that no reason has is read as none yet
unfoldable pub reason_for : ℕ → Reason
reason_for k =
    when eqb k 1 then CountReached
    else when eqb k 2 then Nack
    else when eqb k 3 then Outside
    else when eqb k 4 then ArbitrationLost
    else when eqb k 5 then Fault
    else when eqb k 6 then Reset
    else NoneYet
