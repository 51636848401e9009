-- The words for a turn, in each record line of a trace and in the cells of the response table. (Those of the turns are document 01's, the others the
-- programs'.)
use Rattle.std.specs.Prelude.{List, ℕ, codes}
use Rattle.control.specs.declared.turn.Called.TheVariants.{Own, General}
use Rattle.control.specs.declared.turn.Called.{Called}
use Rattle.control.specs.declared.turn.Turn.TheVariants.{Off, Host, Free, Busy, Listen}
use Rattle.control.specs.declared.turn.Turn.TheVariants.{Address, Send, Receive, SlaveReceive, SlaveSend, Stopping, Restarting}
use Rattle.control.specs.declared.turn.Turn.{Turn}

-- document 01's name of a turn
unfoldable pub turn_name : Turn → List ℕ
turn_name Off = codes "Off"
turn_name (Host status edge) = codes "Host"
turn_name Free = codes "Free"
turn_name Busy = codes "Busy"
turn_name Listen = codes "Listen"
turn_name Address = codes "Address"
turn_name Send = codes "Send"
turn_name Receive = codes "Receive"
turn_name (SlaveReceive called) = codes "SlaveReceive"
turn_name SlaveSend = codes "SlaveSend"
turn_name Stopping = codes "Stopping"
turn_name Restarting = codes "Restarting"

-- the address called, in SlaveReceive
unfoldable pub called_name : Called → List ℕ
called_name Own = codes "own"
called_name General = codes "general"
