-- "The value returned is 0 and the whole record stays": a refused access or event changes nothing; and which numbers a read, a write and an event can be
-- given. Assumes nothing.
use Rattle.std.specs.Prelude.{Option, Some, None}
use mathlib.Core.Bool.{Bool, true, false}
use mathlib.Core.List.{List, [], ◌∷◌}
use mathlib.Core.Path.{◌≡◌, refl, ◌∙◌}
use Prim.Native.Nat.{ℕ}
use lib.Dec.{T}
use Rattle.address.specs.declared.matching.Match.TheVariants.{Own, General, Nothing}
use Rattle.address.specs.declared.matching.Match.{Match}
use Rattle.address.specs.declared.number.Direction.TheVariants.{Write, Read}
use Rattle.control.specs.declared.flags.Control.{Control}
use Rattle.control.specs.declared.turn.Called.TheVariants as called
use Rattle.control.specs.declared.turn.Called.{Called}
use Rattle.control.specs.declared.turn.Edge.{Edge}
use Rattle.control.specs.declared.turn.Turn.{Turn}
use Rattle.controller.specs.Access.{read_sound, read_of, write_sound, write_of}
use Rattle.controller.specs.Condition.{own_start, other_start, other_stop, own_stop, addressed, address_byte}
use Rattle.controller.specs.Condition.{outbid, address_lost, data_lost, illegal_edge, data_held, clock_held, idle}
use Rattle.controller.specs.Event.{event_sound, event_of}
use Rattle.controller.specs.I2ccon.{controlled, enabled, write_flags, write_control}
use Rattle.controller.specs.Record.{sound}
use Rattle.controller.specs.Registers.{wrote, write_pointer, read_data, write_data, write_at_pointer}
use Rattle.controller.specs.Reply.{Outcome, refuses, accepts, waits_for, interrupts_at, changes_status}
use Rattle.controller.specs.Reset.{write_preset}
use Rattle.controller.specs.Transfer.{data_out, byte_out, data_in, slave_in, byte_in}
use Rattle.controller.specs.declared.record.Controller.{Controller}
use Rattle.notation.proofs.Among.{has, every, is_true, among-has, within}
use Rattle.notation.specs.Choice.{when◌then◌else◌, among}

-- an outcome that is accepted or refused with one of these numbers and, where it is refused, keeps the record and has the value 0
pub record Stays (c : Controller) (numbers : List ℕ) (o : Outcome) : Type 0 where
  pub numbered : among o.refused (0 ∷ numbers) ≡ true
  pub record-kept : (o.refused ≡ 0 → ⊥) → o.next ≡ c
  pub value-zero : (o.refused ≡ 0 → ⊥) → o.value ≡ 0

-- the lines of the table that an event, an event of a sound record, a read and a write can meet
abbrev pub of_event : List ℕ
of_event = 1 ∷ 2 ∷ 10 ∷ 8 ∷ []

abbrev pub of_sound_event : List ℕ
of_sound_event = 1 ∷ 2 ∷ 8 ∷ []

abbrev pub of_read : List ℕ
of_read = 1 ∷ 10 ∷ 9 ∷ 3 ∷ 7 ∷ []

abbrev pub of_write : List ℕ
of_write = 1 ∷ 10 ∷ 9 ∷ 3 ∷ 4 ∷ 5 ∷ 6 ∷ 7 ∷ []

-- the two ends of every rule, and the choice between rules
refused : (c : Controller) (ns : List ℕ) (n : ℕ) → T (has (0 ∷ ns) n) → Stays c ns (refuses c n)
unfolding refuses
refused c ns n t = record { numbered = among-has n (0 ∷ ns) ∙ is_true _ t; record-kept = λ h. refl; value-zero = λ h. refl }

accepted : (c d : Controller) (ns : List ℕ) (v : ℕ) → Stays c ns (accepts d v)
unfolding accepts
accepted c d ns v = record { numbered = among-has 0 (0 ∷ ns); record-kept = λ h. absurd (h refl); value-zero = λ h. absurd (h refl) }

either : (c : Controller) (ns : List ℕ) (b : Bool) (x y : Outcome) → Stays c ns x → Stays c ns y → Stays c ns (when b then x else y)
unfolding when◌then◌else◌
either c ns true x y p q = p
either c ns false x y p q = q

-- among more numbers
widened : (c : Controller) (ns ms : List ℕ) (o : Outcome) → T (every (has (0 ∷ ms)) (0 ∷ ns)) → Stays c ns o → Stays c ms o
widened c ns ms o t s =
    record { numbered = within o.refused (0 ∷ ns) (0 ∷ ms) t s.numbered; record-kept = s.record-kept; value-zero = s.value-zero }

waiting : (c d : Controller) (ns : List ℕ) (t : Turn) (v : ℕ) → Stays c ns (waits_for d t v)
unfolding waits_for
waiting c d ns t v = accepted c _ ns v

interrupted : (c d : Controller) (ns : List ℕ) (s : ℕ) (e : Edge) (v : ℕ) → Stays c ns (interrupts_at d s e v)
unfolding interrupts_at
interrupted c d ns s e v = accepted c _ ns v

status-changed : (c d : Controller) (ns : List ℕ) (s : ℕ) → Stays c ns (changes_status d s)
unfolding changes_status
status-changed c d ns s = accepted c _ ns 0

written : (c d : Controller) (ns : List ℕ) → Stays c ns (wrote d)
unfolding wrote
written c d ns = accepted c _ ns 0

ruleset ends = (refused, accepted, either, waiting, interrupted, status-changed, written, tt)

own_start_lem : (c : Controller) → Stays c of_sound_event (own_start c)
unfolding own_start
own_start_lem c = search ends

other_start_lem : (c : Controller) → Stays c of_sound_event (other_start c)
unfolding other_start
other_start_lem c = search ends

other_stop_lem : (c : Controller) → Stays c of_sound_event (other_stop c)
unfolding other_stop
other_stop_lem c = search ends

own_stop_lem : (c : Controller) → Stays c of_sound_event (own_stop c)
unfolding own_stop
own_stop_lem c = search ends

data_lost_lem : (c : Controller) → Stays c of_sound_event (data_lost c)
unfolding data_lost
data_lost_lem c = search ends

illegal_edge_lem : (c : Controller) → Stays c of_sound_event (illegal_edge c)
unfolding illegal_edge
illegal_edge_lem c = search ends

data_held_lem : (c : Controller) → Stays c of_sound_event (data_held c)
unfolding data_held
data_held_lem c = search ends

clock_held_lem : (c : Controller) → Stays c of_sound_event (clock_held c)
unfolding clock_held
clock_held_lem c = search ends

idle_time : (c : Controller) → Stays c of_sound_event (idle c)
unfolding idle
idle_time c = search ends

address-found : (c : Controller) (m : Match) → Stays c of_sound_event (addressed c m)
unfolding addressed
address-found c General = search ends
address-found c (Own Write) = search ends
address-found c (Own Read) = search ends
address-found c Nothing = search ends

address-byte : (c : Controller) (byte : ℕ) → Stays c of_sound_event (address_byte c byte)
unfolding address_byte
address-byte c byte = search (address-found, ends)

outbid-found : (c : Controller) (m : Match) → Stays c of_sound_event (outbid c m)
unfolding outbid
outbid-found c General = search ends
outbid-found c (Own Write) = search ends
outbid-found c (Own Read) = search ends
outbid-found c Nothing = search ends

address-lost : (c : Controller) (byte : ℕ) → Stays c of_sound_event (address_lost c byte)
unfolding address_lost
address-lost c byte = search (outbid-found, ends)

data_out_lem : (c : Controller) (nack broken done : ℕ) → Stays c of_sound_event (data_out c nack broken done)
unfolding data_out
data_out_lem c nack broken done = search ends

byte_out_lem : (c : Controller) (nack : ℕ) → Stays c of_sound_event (byte_out c nack)
unfolding byte_out
byte_out_lem c nack = search (data_out_lem, ends)

data_in_lem : (c : Controller) (byte taken ended : ℕ) → Stays c of_sound_event (data_in c byte taken ended)
unfolding data_in
data_in_lem c byte taken ended = search ends

slave_in_lem : (c : Controller) (byte : ℕ) (w : Called) → Stays c of_sound_event (slave_in c byte w)
unfolding slave_in
slave_in_lem c byte called.Own = data_in_lem c byte 0x80 0x88
slave_in_lem c byte called.General = data_in_lem c byte 0xE0 0xE8

byte_in_lem : (c : Controller) (byte : ℕ) → Stays c of_sound_event (byte_in c byte)
unfolding byte_in
byte_in_lem c byte = search (data_in_lem, slave_in_lem, ends)

ruleset passing = (own_start_lem, other_start_lem, other_stop_lem, own_stop_lem, address-byte, byte_out_lem, byte_in_lem)

ruleset events = (passing, address-lost, data_lost_lem, illegal_edge_lem, data_held_lem, clock_held_lem, idle_time, ends)

event-sound : (c : Controller) (number argument : ℕ) → Stays c of_sound_event (event_sound c number argument)
unfolding event_sound
event-sound c number argument = search events depth 20

write_preset_lem : (c : Controller) (value : ℕ) → Stays c of_write (write_preset c value)
unfolding write_preset
write_preset_lem c value = search ends

write-pointer : (c : Controller) (value : ℕ) → Stays c of_write (write_pointer c value)
unfolding write_pointer
write-pointer c value = search ends

read_data_lem : (c : Controller) → Stays c of_read (read_data c)
unfolding read_data
read_data_lem c = search ends

write_data_lem : (c : Controller) (value : ℕ) → Stays c of_write (write_data c value)
unfolding write_data
write_data_lem c value = search ends

write-at-pointer : (c : Controller) (value : ℕ) → Stays c of_write (write_at_pointer c value)
unfolding write_at_pointer
write-at-pointer c value = search (write_preset_lem, ends)

control-written : (c : Controller) (k : Control) (t : Turn) → Stays c of_write (controlled c k t)
unfolding controlled
control-written c k t = search ends

enabling : (c : Controller) (k : Control) (r : Option Turn) → Stays c of_write (enabled c k r)
unfolding enabled
enabling c k None = search ends
enabling c k (Some t) = search (control-written, ends)

write-flags : (c : Controller) (k : Control) → Stays c of_write (write_flags c k)
unfolding write_flags
write-flags c k = search (enabling, control-written, ends)

write-control : (c : Controller) (value : ℕ) → Stays c of_write (write_control c value)
unfolding write_control
write-control c value = search write-flags

read-sound : (c : Controller) (register : ℕ) → Stays c of_read (read_sound c register)
unfolding read_sound
read-sound c register = search (read_data_lem, ends) depth 12

write-sound : (c : Controller) (register value : ℕ) → Stays c of_write (write_sound c register value)
unfolding write_sound
write-sound c register value = search (write-pointer, write_data_lem, write-at-pointer, write-control, ends) depth 12

-- The three laws: every read, every write and every event, of any record whatever.
pub read_stays : (c : Controller) (register : ℕ) → Stays c of_read (read_of c register)
unfolding read_of
read_stays c register = search (read-sound, ends)

pub write-stays : (c : Controller) (register value : ℕ) → Stays c of_write (write_of c register value)
unfolding write_of
write-stays c register value = search (write-sound, ends)

pub event-stays : (c : Controller) (number argument : ℕ) → Stays c of_event (event_of c number argument)
unfolding event_of
event-stays c number argument =
    either c of_event _ _ _ (refused c of_event 1 tt)
    (either c of_event _ _ _ (refused c of_event 2 tt)
    (either c of_event _ _ _ (accepted c _ of_event 0)
    (either c of_event _ _ _ (widened c of_sound_event of_event _ tt (event-sound c number argument)) (refused c of_event 10 tt))))

pub sound-event-stays : (c : Controller) (number argument : ℕ) → sound c ≡ true → Stays c of_sound_event (event_of c number argument)
unfolding event_of when◌then◌else◌
sound-event-stays c number argument s = rw s (search (event-sound, ends) depth 8)
