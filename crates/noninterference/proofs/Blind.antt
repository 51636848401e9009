-- What an access or event makes of the buffer. Two records that differ in their buffers alone give the same refusal, the same value and
-- the same next record but for the buffer, unless the byte they read differs; and the buffer keeps its length. Assumes nothing.
use mathlib.Core.Bool.{Bool, true, false, true≢false}
use mathlib.Core.List.{List, [], ◌∷◌}
use mathlib.Core.Path.{◌≡◌, refl, sym, ap, subst, ◌∙◌}
use Prim.Native.Nat.{ℕ}
use borrow.Author.Tests.{eqb-true}
use lib.Dec.{T, eqb, ltb}
use lib.ListN.{length, get_or, length-set}
use Rattle.std.specs.Prelude.{Option, Some, None}
use Rattle.address.specs.Number.{direction_of}
use Rattle.address.specs.declared.matching.Match.TheVariants.{Own, General, Nothing}
use Rattle.address.specs.declared.matching.Match.{Match}
use Rattle.address.specs.declared.number.Direction.TheVariants.{Write, Read}
use Rattle.control.specs.Turn.{address, send, slave_send, kind}
use Rattle.control.specs.declared.flags.Control.{Control}
use Rattle.control.specs.declared.turn.Called.TheVariants as called
use Rattle.control.specs.declared.turn.Called.{Called}
use Rattle.control.specs.declared.turn.Edge.{Edge}
use Rattle.control.specs.declared.turn.Turn.{Turn}
use Rattle.controller.specs.Access.{indirect_at, bars_read, bars_write, read_sound, read_of, write_sound, write_of}
use Rattle.controller.specs.Condition.{own_start, other_start, other_stop, own_stop, addressed, address_byte}
use Rattle.controller.specs.Condition.{outbid, address_lost, data_lost, illegal_edge, data_held, clock_held, idle}
use Rattle.controller.specs.Event.{bad_argument, event_sound, event_of}
use Rattle.controller.specs.I2ccon.{bad_count, controlled, enabled, write_flags, write_control}
use Rattle.controller.specs.Record.{place, sound, move_sound}
use Rattle.controller.specs.Setters.{with_buffer, with_hand}
use Rattle.controller.specs.Registers.{wrote, write_pointer, read_data, write_data, at_pointer, write_at_pointer}
use Rattle.controller.specs.Reply.{Outcome, refuses, accepts, waits_for, with_status, interrupts_at, changes_status}
use Rattle.controller.specs.Reset.{reset_with, completes_reset, write_preset}
use Rattle.controller.specs.Transfer.{cursor, is_last, acknowledges_last, received, data_out, address_status, byte_out, data_in, slave_in, byte_in}
use Rattle.controller.specs.declared.record.Controller.{Controller}
use Rattle.notation.proofs.Among.{has, among-has, is_true, within}
use Rattle.notation.specs.Choice.{when◌then◌else◌, ◌and◌, ◌or◌, among}

-- all of the record but the buffer
abbrev pub blank : Controller → Controller
blank c = with_buffer c []

-- the outcome o of a rule at c, and o' of the same rule with another buffer
pub record Blind (c : Controller) (o o' : Outcome) : Type 0 where
  pub next : blank o.next ≡ blank o'.next
  pub refused : o.refused ≡ o'.refused
  pub value : o.value ≡ o'.value
  pub sized : length o.next.buffer ≡ length c.buffer

-- the ends of the rules
refusing : (c : Controller) (b : List ℕ) (n : ℕ) → Blind c (refuses c n) (refuses (with_buffer c b) n)
unfolding refuses
refusing c b n = record { next = refl; refused = refl; value = refl; sized = refl }

accepting : (c d : Controller) (b : List ℕ) (v v' : ℕ) → v ≡ v' → length d.buffer ≡ length c.buffer →
    Blind c (accepts d v) (accepts (with_buffer d b) v')
unfolding accepts
accepting c d b v v' w h = record { next = refl; refused = refl; value = w; sized = h }

waiting : (c d : Controller) (b : List ℕ) (t : Turn) (v : ℕ) → length d.buffer ≡ length c.buffer →
    Blind c (waits_for d t v) (waits_for (with_buffer d b) t v)
unfolding waits_for
waiting c d b t v h = accepting c _ b v v refl h

interrupting : (c d : Controller) (b : List ℕ) (s s' : ℕ) (e : Edge) (v v' : ℕ) → s ≡ s' → v ≡ v' →
    length d.buffer ≡ length c.buffer → Blind c (interrupts_at d s e v) (interrupts_at (with_buffer d b) s' e v')
unfolding interrupts_at accepts
interrupting c d b s s' e v v' q w h =
    record { next = ap (λ (n : ℕ). blank (with_hand (with_status d n e) 0)) q; refused = refl; value = w; sized = h }

changing : (c d : Controller) (b : List ℕ) (s : ℕ) → length d.buffer ≡ length c.buffer →
    Blind c (changes_status d s) (changes_status (with_buffer d b) s)
unfolding changes_status
changing c d b s h = accepting c _ b 0 0 refl h

writing : (c d : Controller) (b : List ℕ) → length d.buffer ≡ length c.buffer → Blind c (wrote d) (wrote (with_buffer d b))
unfolding wrote
writing c d b h = accepting c _ b 0 0 refl h

either : (c : Controller) (x : Bool) (o o' p p' : Outcome) → Blind c o o' → Blind c p p' → Blind c (when x then o else p) (when x then o' else p')
unfolding when◌then◌else◌
either c true o o' p p' f g = f
either c false o o' p p' f g = g

kept : (c : Controller) → length c.buffer ≡ length c.buffer
kept c = refl

same : (n : ℕ) → n ≡ n
same n = refl

ruleset ends = (refusing, accepting, waiting, interrupting, changing, writing, either, kept, same, length-set)

own_start_lem : (c : Controller) (b : List ℕ) → Blind c (own_start c) (own_start (with_buffer c b))
unfolding own_start
own_start_lem c b = search ends

other_start_lem : (c : Controller) (b : List ℕ) → Blind c (other_start c) (other_start (with_buffer c b))
unfolding other_start
other_start_lem c b = search ends

other_stop_lem : (c : Controller) (b : List ℕ) → Blind c (other_stop c) (other_stop (with_buffer c b))
unfolding other_stop
other_stop_lem c b = search ends

own_stop_lem : (c : Controller) (b : List ℕ) → Blind c (own_stop c) (own_stop (with_buffer c b))
unfolding own_stop
own_stop_lem c b = search ends

data_lost_lem : (c : Controller) (b : List ℕ) → Blind c (data_lost c) (data_lost (with_buffer c b))
unfolding data_lost
data_lost_lem c b = search ends

illegal_edge_lem : (c : Controller) (b : List ℕ) → Blind c (illegal_edge c) (illegal_edge (with_buffer c b))
unfolding illegal_edge
illegal_edge_lem c b = search ends

data_held_lem : (c : Controller) (b : List ℕ) → Blind c (data_held c) (data_held (with_buffer c b))
unfolding data_held
data_held_lem c b = search ends

clock_held_lem : (c : Controller) (b : List ℕ) → Blind c (clock_held c) (clock_held (with_buffer c b))
unfolding clock_held
clock_held_lem c b = search ends

idle_time : (c : Controller) (b : List ℕ) → Blind c (idle c) (idle (with_buffer c b))
unfolding idle
idle_time c b = search ends

address-found : (c : Controller) (b : List ℕ) (m : Match) → Blind c (addressed c m) (addressed (with_buffer c b) m)
unfolding addressed
address-found c b General = search ends
address-found c b (Own Write) = search ends
address-found c b (Own Read) = search ends
address-found c b Nothing = search ends

address-byte : (c : Controller) (b : List ℕ) (byte : ℕ) → Blind c (address_byte c byte) (address_byte (with_buffer c b) byte)
unfolding address_byte
address-byte c b byte = search (address-found, ends)

data_in_lem : (c : Controller) (b : List ℕ) (byte taken ended : ℕ) → Blind c (data_in c byte taken ended) (data_in (with_buffer c b) byte taken ended)
unfolding data_in is_last acknowledges_last received
data_in_lem c b byte taken ended = search ends

slave_in_lem : (c : Controller) (b : List ℕ) (byte : ℕ) (w : Called) → Blind c (slave_in c byte w) (slave_in (with_buffer c b) byte w)
unfolding slave_in
slave_in_lem c b byte called.Own = data_in_lem c b byte 0x80 0x88
slave_in_lem c b byte called.General = data_in_lem c b byte 0xE0 0xE8

byte_in_lem : (c : Controller) (b : List ℕ) (byte : ℕ) → Blind c (byte_in c byte) (byte_in (with_buffer c b) byte)
unfolding byte_in
byte_in_lem c b byte = search (data_in_lem, slave_in_lem, ends)

write_preset_lem : (c : Controller) (b : List ℕ) (value : ℕ) → Blind c (write_preset c value) (write_preset (with_buffer c b) value)
unfolding write_preset completes_reset reset_with
write_preset_lem c b value = search ends

write-pointer : (c : Controller) (b : List ℕ) (value : ℕ) → Blind c (write_pointer c value) (write_pointer (with_buffer c b) value)
unfolding write_pointer
write-pointer c b value = search ends

write_data_lem : (c : Controller) (b : List ℕ) (value : ℕ) → Blind c (write_data c value) (write_data (with_buffer c b) value)
unfolding write_data
write_data_lem c b value = search ends

write-at-pointer : (c : Controller) (b : List ℕ) (value : ℕ) → Blind c (write_at_pointer c value) (write_at_pointer (with_buffer c b) value)
unfolding write_at_pointer
write-at-pointer c b value = search (write_preset_lem, ends)

control-written : (c : Controller) (b : List ℕ) (k : Control) (t : Turn) → Blind c (controlled c k t) (controlled (with_buffer c b) k t)
unfolding controlled
control-written c b k t = search ends

enabling : (c : Controller) (b : List ℕ) (k : Control) (r : Option Turn) → Blind c (enabled c k r) (enabled (with_buffer c b) k r)
unfolding enabled bad_count
enabling c b k None = search ends
enabling c b k (Some t) = search (control-written, ends)

write-flags : (c : Controller) (b : List ℕ) (k : Control) → Blind c (write_flags c k) (write_flags (with_buffer c b) k)
unfolding write_flags
write-flags c b k = search (enabling, control-written, ends)

write-control : (c : Controller) (b : List ℕ) (value : ℕ) → Blind c (write_control c value) (write_control (with_buffer c b) value)
unfolding write_control
write-control c b value = search write-flags

write-sound : (c : Controller) (b : List ℕ) (register value : ℕ) → Blind c (write_sound c register value) (write_sound (with_buffer c b) register value)
unfolding write_sound indirect_at bars_write
write-sound c b register value = search (write-pointer, write_data_lem, write-at-pointer, write-control, ends) depth 12

-- the byte that an event reads is the same in the other buffer: place 0 in Address, the cursor's place in Send and SlaveSend
pub record Reading (c : Controller) (b : List ℕ) : Type 0 where
  pub address : among (kind c.turn) (address ∷ []) ≡ true → place c 0 ≡ get_or b 0 0
  pub moved : among (kind c.turn) (send ∷ slave_send ∷ []) ≡ true → place c (cursor c) ≡ get_or b (cursor c) 0

-- a choice between rules, each knowing the test's outcome
branch : (c : Controller) (x : Bool) (o o' p p' : Outcome) → (x ≡ true → Blind c o o') → (x ≡ false → Blind c p p') →
    Blind c (when x then o else p) (when x then o' else p')
unfolding when◌then◌else◌
branch c true o o' p p' f g = f refl
branch c false o o' p p' f g = g refl

outbid-found : (c : Controller) (b : List ℕ) (m : Match) → Blind c (outbid c m) (outbid (with_buffer c b) m)
unfolding outbid
outbid-found c b General = search ends
outbid-found c b (Own Write) = search ends
outbid-found c b (Own Read) = search ends
outbid-found c b Nothing = search ends

-- the same choice where the second test reads the byte
both : (c : Controller) (x y y' : Bool) (o o' p p' : Outcome) → (x ≡ true → y ≡ y') → Blind c o o' → Blind c p p' →
    Blind c (when x and y then o else p) (when x and y' then o' else p')
unfolding ◌and◌
both c true y y' o o' p p' e f g = subst (λ z. Blind c (when y then o else p) (when z then o' else p')) (e refl) (either c y o o' p p' f g)
both c false y y' o o' p p' e f g = either c false o o' p p' f g

address-lost : (c : Controller) (b : List ℕ) (byte : ℕ) → Reading c b → Blind c (address_lost c byte) (address_lost (with_buffer c b) byte)
unfolding address_lost
address-lost c b byte r =
    both c _ _ _ _ _ _ _ (λ t. ap (ltb byte) (r.address t)) (outbid-found c b _) (refusing c b 8)

data_out_lem : (c : Controller) (b : List ℕ) (nack broken done : ℕ) → place c (cursor c) ≡ get_or b (cursor c) 0 →
    Blind c (data_out c nack broken done) (data_out (with_buffer c b) nack broken done)
unfolding data_out is_last cursor
data_out_lem c b nack broken done e = search (e, ends)

byte_out_lem : (c : Controller) (b : List ℕ) (nack : ℕ) → Reading c b → Blind c (byte_out c nack) (byte_out (with_buffer c b) nack)
unfolding byte_out
byte_out_lem c b nack r =
    branch c (among (kind c.turn) (address ∷ [])) _ _ _ _
    (λ t. interrupting c c b _ _ _ _ _ (ap (λ (x : ℕ). address_status (direction_of (record { 0 = x })) nack) (r.address t)) (r.address t) refl)
    (λ _. branch c (among (kind c.turn) (send ∷ [])) _ _ _ _
    (λ t. data_out_lem c b nack 0x30 0x28 (r.moved (within _ (send ∷ []) (send ∷ slave_send ∷ []) tt t)))
    (λ _. branch c (among (kind c.turn) (slave_send ∷ [])) _ _ _ _
    (λ t. data_out_lem c b nack 0xC0 _ (r.moved (within _ (slave_send ∷ []) (send ∷ slave_send ∷ []) tt t)))
    (λ _. refusing c b 8)))

-- Every write, of any record.
pub write_blind : (c : Controller) (b : List ℕ) (register value : ℕ) → Blind c (write_of c register value) (write_of (with_buffer c b) register value)
unfolding write_of sound move_sound
write_blind c b register value = search (write-sound, ends)

-- events 1 to 13
event-sound : (c : Controller) (b : List ℕ) (number argument : ℕ) → (among number (6 ∷ 8 ∷ []) ≡ true → Reading c b) →
    Blind c (event_sound c number argument) (event_sound (with_buffer c b) number argument)
unfolding event_sound
event-sound c b number argument r =
    either c (eqb number 1) _ _ _ _ (own_start_lem c b)
    (either c (eqb number 2) _ _ _ _ (other_start_lem c b)
    (either c (eqb number 3) _ _ _ _ (other_stop_lem c b)
    (either c (eqb number 4) _ _ _ _ (own_stop_lem c b)
    (either c (eqb number 5) _ _ _ _ (address-byte c b argument)
    (branch c (eqb number 6) _ _ _ _ (λ e. byte_out_lem c b argument (r (reading 6 tt e)))
    (λ _. either c (eqb number 7) _ _ _ _ (byte_in_lem c b argument)
    (branch c (eqb number 8) _ _ _ _ (λ e. address-lost c b argument (r (reading 8 tt e)))
    (λ _. either c (eqb number 9) _ _ _ _ (data_lost_lem c b)
    (either c (eqb number 10) _ _ _ _ (illegal_edge_lem c b)
    (either c (eqb number 11) _ _ _ _ (data_held_lem c b)
    (either c (eqb number 12) _ _ _ _ (clock_held_lem c b)
    (either c (eqb number 13) _ _ _ _ (idle_time c b) (refusing c b 8)))))))))))))
  where
    reading : (k : ℕ) → T (has (6 ∷ 8 ∷ []) k) → eqb number k ≡ true → among number (6 ∷ 8 ∷ []) ≡ true
    reading k t e = among-has number (6 ∷ 8 ∷ []) ∙ ap (has (6 ∷ 8 ∷ [])) (eqb-true number k e) ∙ is_true _ t

-- Every event, of any record; events 6 and 8 where the byte that they read is the same.
pub event_blind : (c : Controller) (b : List ℕ) (number argument : ℕ) → (among number (6 ∷ 8 ∷ []) ≡ true → Reading c b) →
    Blind c (event_of c number argument) (event_of (with_buffer c b) number argument)
unfolding event_of sound move_sound reset_with
event_blind c b number argument r =
    either c (eqb number 0 or ltb 14 number) _ _ _ _ (refusing c b 1)
    (either c (bad_argument number argument) _ _ _ _ (refusing c b 2)
    (either c (eqb number 14) _ _ _ _ (accepting c _ b 0 0 refl refl)
    (either c (sound c) _ _ _ _ (event-sound c b number argument r) (refusing c b 10))))

read-sound : (c : Controller) (b : List ℕ) (register : ℕ) → eqb register 1 ≡ false →
    Blind c (read_sound c register) (read_sound (with_buffer c b) register)
unfolding read_sound indirect_at bars_read at_pointer
read-sound c b register e =
    either c _ _ _ _ _ (refusing c b 9) (either c _ _ _ _ _ (refusing c b 3) (either c (eqb register 0) _ _ _ _ (search ends)
    (branch c (eqb register 1) _ _ _ _ (λ t. absurd (true≢false (sym t ∙ e))) (λ _. search ends))))

-- Every read but that of I2CDAT.
pub read_blind : (c : Controller) (b : List ℕ) (register : ℕ) → eqb register 1 ≡ false →
    Blind c (read_of c register) (read_of (with_buffer c b) register)
unfolding read_of sound move_sound
read_blind c b register e = either c _ _ _ _ _ (refusing c b 1) (either c _ _ _ _ _ (read-sound c b register e) (refusing c b 10))

-- what two outcomes leave, the value aside
pub record Leaves (c : Controller) (o o' : Outcome) : Type 0 where
  pub next : blank o.next ≡ blank o'.next
  pub sized : length o.next.buffer ≡ length c.buffer

left : (c : Controller) (o o' : Outcome) → Blind c o o' → Leaves c o o'
left c o o' e = record { next = e.next; sized = e.sized }

choose : (c : Controller) (x : Bool) (o o' p p' : Outcome) → Leaves c o o' → Leaves c p p' →
    Leaves c (when x then o else p) (when x then o' else p')
unfolding when◌then◌else◌
choose c true o o' p p' f g = f
choose c false o o' p p' f g = g

-- An I2CDAT read: all of the record but the buffer goes on in the same way, whatever byte was read.
pub fetch_blind : (c : Controller) (b : List ℕ) → Leaves c (read_of c 1) (read_of (with_buffer c b) 1)
unfolding read_of read_sound read_data at_pointer bars_read indirect_at sound move_sound accepts
fetch_blind c b =
    choose c _ _ _ _ _ (left c _ _ (refusing c b 1)) (choose c _ _ _ _ _
    (choose c _ _ _ _ _ (left c _ _ (refusing c b 9)) (choose c _ _ _ _ _ (left c _ _ (refusing c b 3)) (choose c _ _ _ _ _ (left c _ _ (search ends))
    (choose c _ _ _ _ _ (choose c _ _ _ _ _ (left c _ _ (refusing c b 7)) (record { next = refl; sized = refl })) (left c _ _ (search ends))))))
    (left c _ _ (refusing c b 10)))
