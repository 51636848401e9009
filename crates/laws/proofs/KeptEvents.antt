-- Events 1 to 13 take a sound record to a sound one. Assumes nothing.
use mathlib.Core.Bool.{Bool, true, false, true≢false}
use mathlib.Core.List.{[], ◌∷◌}
use mathlib.Core.Path.{◌≡◌, sym, ◌∙◌}
use Prim.Native.Nat.{ℕ, ◌+◌}
use native.Mathlib.Omega.{arith}
use borrow.Author.Tests.{ltb-true, eqb-false, lt-ltb}
use lib.Dec.{T, eqb, leb, ltb}
use Rattle.address.specs.declared.matching.Match.TheVariants.{Own, General, Nothing}
use Rattle.address.specs.declared.matching.Match.{Match}
use Rattle.address.specs.declared.number.Direction.TheVariants.{Write, Read}
use Rattle.address.specs.declared.number.Direction.{Direction}
use Rattle.control.specs.Turn.{send, receive, slave_receive, slave_send, data_turns, kind, called_of}
use Rattle.control.specs.declared.turn.Called.TheVariants as called
use Rattle.control.specs.declared.turn.Called.{Called}
use Rattle.controller.proofs.SoundParts.{parts, whole, moving}
use Rattle.controller.specs.Condition.{without_stop, own_start, other_start, other_stop, own_stop, addressed, address_byte}
use Rattle.controller.specs.Condition.{outbid, address_lost, data_lost, illegal_edge, data_held, clock_held, idle}
use Rattle.controller.specs.Event.{event_sound}
use Rattle.controller.specs.Record.{byte_count, given_statuses, move_sound, sound}
use Rattle.controller.specs.Setters.{with_control}
use Rattle.controller.specs.Transfer.{is_last, counted, data_out, address_status, byte_out, acknowledges_last, received, data_in, slave_in, byte_in, sent_direction}
use Rattle.controller.specs.declared.record.Controller.{Controller}
use Rattle.notation.proofs.Among.{has, within}
use Rattle.notation.proofs.Cases.{when-true, and-true, and_left, and_right, split}
use Rattle.notation.specs.Choice.{when◌then◌else◌, ◌and◌, among}
use Rattle.laws.proofs.Kept.{Kept, Ranges, ranges, accepted, interrupted, refused, either, ends}

own_start_lem : (c : Controller) → sound c ≡ true → Kept (own_start c)
unfolding own_start
own_start_lem c s = search ends

other_start_lem : (c : Controller) → sound c ≡ true → Kept (other_start c)
unfolding other_start
other_start_lem c s = search ends

other_stop_lem : (c : Controller) → sound c ≡ true → Kept (other_stop c)
unfolding other_stop
other_stop_lem c s = search ends

data_lost_lem : (c : Controller) → sound c ≡ true → Kept (data_lost c)
unfolding data_lost
data_lost_lem c s = search ends

illegal_edge_lem : (c : Controller) → sound c ≡ true → Kept (illegal_edge c)
unfolding illegal_edge
illegal_edge_lem c s = search ends

data_held_lem : (c : Controller) → sound c ≡ true → Kept (data_held c)
unfolding data_held
data_held_lem c s = search ends

clock_held_lem : (c : Controller) → sound c ≡ true → Kept (clock_held c)
unfolding clock_held
clock_held_lem c s = search ends

idle_time : (c : Controller) → sound c ≡ true → Kept (idle c)
unfolding idle
idle_time c s = search ends

own_stop_lem : (c : Controller) → sound c ≡ true → Kept (own_stop c)
unfolding own_stop
own_stop_lem c s =
    let r = ranges c s in
    let stopped : Ranges (with_control c (without_stop c.control)) = record { pointer = r.pointer; hand = r.hand; moved = r.moved; speed = r.speed } in
    search ends

found : (c : Controller) (m : Match) → sound c ≡ true → Kept (addressed c m)
unfolding addressed
found c General s = search ends
found c (Own Write) s = search ends
found c (Own Read) s = search ends
found c Nothing s = search ends

address-byte : (c : Controller) (byte : ℕ) → sound c ≡ true → Kept (address_byte c byte)
unfolding address_byte
address-byte c byte s = search (found, ends)

overtaken : (c : Controller) (m : Match) → sound c ≡ true → Kept (outbid c m)
unfolding outbid
overtaken c General s = search ends
overtaken c (Own Write) s = search ends
overtaken c (Own Read) s = search ends
overtaken c Nothing s = search ends

address-lost : (c : Controller) (byte : ℕ) → sound c ≡ true → Kept (address_lost c byte)
unfolding address_lost
address-lost c byte s = search (overtaken, ends)

-- A byte moved in a data turn: the moved count stays in range, and a move that goes on stays below BC.
module _ (c : Controller) (s : sound c ≡ true) (t : among (kind c.turn) data_turns ≡ true) where
  counted-ranges : Ranges (counted c)
  counted-ranges =
      let r = ranges c s in
      let m = moving c s t in
      record { pointer = r.pointer; hand = r.hand; moved = omega arith; speed = r.speed }

  goes_on_lem : is_last c ≡ false → sound (counted c) ≡ true
  unfolding is_last move_sound when◌then◌else◌
  goes_on_lem l =
      let r = counted-ranges in
      whole (counted c) (record {
        pointer = r.pointer;
        hand = r.hand;
        moved = r.moved;
        speed = r.speed;
        host = (parts c s).host;
        move = when-true (among (kind c.turn) data_turns) _ _ t ∙ step c.control.mode l was;
      })
    where
      was : (when c.control.mode then ltb c.moved (byte_count c) and leb (byte_count c) 68 else eqb c.moved 0) ≡ true
      was = sym (when-true (among (kind c.turn) data_turns) _ _ t) ∙ (parts c s).move

      step : (mode : Bool) → (when mode then eqb (c.moved + 1) (byte_count c) else true) ≡ false →
          (when mode then ltb c.moved (byte_count c) and leb (byte_count c) 68 else eqb c.moved 0) ≡ true →
          (when mode then ltb (c.moved + 1) (byte_count c) and leb (byte_count c) 68 else eqb (c.moved + 1) 0) ≡ true
      step true l w =
          let below = ltb-true c.moved (byte_count c) (and_left (ltb c.moved (byte_count c)) (leb (byte_count c) 68) w) in
          let short = eqb-false (c.moved + 1) (byte_count c) l in
          and-true (ltb (c.moved + 1) (byte_count c)) (leb (byte_count c) 68)
          (lt-ltb (c.moved + 1) (byte_count c) (omega arith))
          (and_right (ltb c.moved (byte_count c)) (leb (byte_count c) 68) w)
      step false l w = absurd (true≢false l)

  data_out_lem : (nack broken done : ℕ) → T (has given_statuses broken) → T (has given_statuses done) → Kept (data_out c nack broken done)
  unfolding data_out
  data_out_lem nack broken done g h =
      let r = counted-ranges in
      split Kept (eqb nack 1) _ _ (λ e. interrupted (counted c) broken _ _ r g)
      (λ e. split Kept (is_last c) _ _ (λ e. interrupted (counted c) done _ _ r h) (λ l. accepted (counted c) _ (goes_on_lem l)))

  -- what stands in the buffer does not count
  data_in_lem : (byte taken ended : ℕ) → T (has given_statuses taken) → T (has given_statuses ended) → Kept (data_in c byte taken ended)
  unfolding data_in received sound move_sound
  data_in_lem byte taken ended g h =
      let q = counted-ranges in
      let r : Ranges (received c byte) = record { pointer = q.pointer; hand = q.hand; moved = q.moved; speed = q.speed } in
      split Kept (is_last c) _ _
      (λ e. either (acknowledges_last c) _ _ (interrupted (received c byte) taken _ 0 r g) (interrupted (received c byte) ended _ 1 r h))
      (λ l. accepted (received c byte) 0 (goes_on_lem l))

status-given : (d : Direction) (nack : ℕ) → T (has given_statuses (address_status d nack))
unfolding address_status
status-given Write nack = split (λ n. T (has given_statuses n)) (eqb nack 1) 0x20 0x18 (λ e. tt) (λ e. tt)
status-given Read nack = split (λ n. T (has given_statuses n)) (eqb nack 1) 0x48 0x40 (λ e. tt) (λ e. tt)

byte_out_lem : (c : Controller) (nack : ℕ) → sound c ≡ true → Kept (byte_out c nack)
unfolding byte_out
byte_out_lem c nack s =
    split Kept _ _ _ (λ e. interrupted c _ _ _ (ranges c s) (status-given (sent_direction c) nack))
    (λ e. split Kept (among (kind c.turn) (send ∷ [])) _ _ (λ t. data_out_lem c s (within _ (send ∷ []) data_turns tt t) nack 0x30 0x28 tt tt)
    (λ e. split Kept (among (kind c.turn) (slave_send ∷ [])) _ _
    (λ t. data_out_lem c s (within _ (slave_send ∷ []) data_turns tt t) nack 0xC0 (when c.control.aa then 0xB8 else 0xC8) tt
    (split (λ n. T (has given_statuses n)) c.control.aa 0xB8 0xC8 (λ e. tt) (λ e. tt)))
    (λ e. refused c 8 s)))

slave_in_lem : (c : Controller) (byte : ℕ) (w : Called) → sound c ≡ true → among (kind c.turn) data_turns ≡ true → Kept (slave_in c byte w)
unfolding slave_in
slave_in_lem c byte called.Own s t = data_in_lem c s t byte 0x80 0x88 tt tt
slave_in_lem c byte called.General s t = data_in_lem c s t byte 0xE0 0xE8 tt tt

byte_in_lem : (c : Controller) (byte : ℕ) → sound c ≡ true → Kept (byte_in c byte)
unfolding byte_in
byte_in_lem c byte s =
    split Kept (among (kind c.turn) (receive ∷ [])) _ _ (λ t. data_in_lem c s (within _ (receive ∷ []) data_turns tt t) byte 0x50 0x58 tt tt)
    (λ e. split Kept (among (kind c.turn) (slave_receive ∷ [])) _ _
    (λ t. slave_in_lem c byte (called_of c.turn) s (within _ (slave_receive ∷ []) data_turns tt t)) (λ e. refused c 8 s))

ruleset passing = (own_start_lem, other_start_lem, other_stop_lem, own_stop_lem, address-byte, byte_out_lem, byte_in_lem)

ruleset events = (passing, address-lost, data_lost_lem, illegal_edge_lem, data_held_lem, clock_held_lem, idle_time, refused, either)

pub event-kept : (c : Controller) (number argument : ℕ) → sound c ≡ true → Kept (event_sound c number argument)
unfolding event_sound
event-kept c number argument s = search events depth 20
