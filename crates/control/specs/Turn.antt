-- "The turn says what the controller waits for" (document 01, The controller record): a number for each of the twelve turns, so that a
-- rule can list those it speaks of, and what a turn carries.
use Rattle.std.specs.Prelude.{Bool, List, [], ◌∷◌, ℕ, eqb}
use Rattle.control.specs.declared.turn.Called.TheVariants.{Own}
use Rattle.control.specs.declared.turn.Called.{Called}
use Rattle.control.specs.declared.turn.Edge.TheVariants.{Stop}
use Rattle.control.specs.declared.turn.Edge.{Edge}
use Rattle.control.specs.declared.turn.Turn.TheVariants.{Off, Host, Free, Busy, Listen}
use Rattle.control.specs.declared.turn.Turn.TheVariants.{Address, Send, Receive, SlaveReceive, SlaveSend, Stopping, Restarting}
use Rattle.control.specs.declared.turn.Turn.{Turn}
use Rattle.notation.specs.Choice.{among}

abbrev pub off : ℕ
off = 0

abbrev pub host : ℕ
host = 1

abbrev pub free : ℕ
free = 2

abbrev pub busy : ℕ
busy = 3

abbrev pub listen : ℕ
listen = 4

abbrev pub address : ℕ
address = 5

abbrev pub send : ℕ
send = 6

abbrev pub receive : ℕ
receive = 7

abbrev pub slave_receive : ℕ
slave_receive = 8

abbrev pub slave_send : ℕ
slave_send = 9

abbrev pub stopping : ℕ
stopping = 10

abbrev pub restarting : ℕ
restarting = 11

unfoldable pub kind : Turn → ℕ
kind Off = off
kind (Host status edge) = host
kind Free = free
kind Busy = busy
kind Listen = listen
kind Address = address
kind Send = send
kind Receive = receive
kind (SlaveReceive called) = slave_receive
kind SlaveSend = slave_send
kind Stopping = stopping
kind Restarting = restarting

-- the turn is one of these
abbrev pub waits : Turn → List ℕ → Bool
waits turn kinds = among (kind turn) kinds

-- "Address to Restarting are the wire turns"
abbrev pub wire_turns : List ℕ
wire_turns = address ∷ send ∷ receive ∷ slave_receive ∷ slave_send ∷ stopping ∷ restarting ∷ []

-- the turns in which data bytes are moved
abbrev pub data_turns : List ℕ
data_turns = send ∷ receive ∷ slave_receive ∷ slave_send ∷ []

-- the statuses of a bus fault, which only a reset leaves: 00h, 70h and 78h
abbrev pub faults : List ℕ
faults = 0x00 ∷ 0x70 ∷ 0x78 ∷ []

-- what I2CSTA reads: the status in Host, else F8h
unfoldable pub status_of : Turn → ℕ
status_of Off = 0xF8
status_of (Host status edge) = status
status_of Free = 0xF8
status_of Busy = 0xF8
status_of Listen = 0xF8
status_of Address = 0xF8
status_of Send = 0xF8
status_of Receive = 0xF8
status_of (SlaveReceive called) = 0xF8
status_of SlaveSend = 0xF8
status_of Stopping = 0xF8
status_of Restarting = 0xF8

-- Host at 38h: arbitration was lost, and another master has the bus
abbrev pub at38h : Turn → Bool
at38h turn = eqb (status_of turn) 0x38

-- in Host, the bus condition beside the status, which matters at A0h; in every other turn `Stop`, which nothing reads
unfoldable pub edge_of : Turn → Edge
edge_of Off = Stop
edge_of (Host status edge) = edge
edge_of Free = Stop
edge_of Busy = Stop
edge_of Listen = Stop
edge_of Address = Stop
edge_of Send = Stop
edge_of Receive = Stop
edge_of (SlaveReceive called) = Stop
edge_of SlaveSend = Stop
edge_of Stopping = Stop
edge_of Restarting = Stop

-- of SlaveReceive, the address called; in every other turn `Own`, which nothing reads
unfoldable pub called_of : Turn → Called
called_of Off = Own
called_of (Host status edge) = Own
called_of Free = Own
called_of Busy = Own
called_of Listen = Own
called_of Address = Own
called_of Send = Own
called_of Receive = Own
called_of (SlaveReceive called) = called
called_of SlaveSend = Own
called_of Stopping = Own
called_of Restarting = Own
