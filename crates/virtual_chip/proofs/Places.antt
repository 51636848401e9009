-- Whatever is asked of a record, it keeps its 68 places. Assumes nothing.
use Rattle.std.specs.Prelude.{Option, Some, None}
use mathlib.Core.Bool.{Bool}
use mathlib.Core.Path.{◌≡◌, refl}
use Prim.Native.Nat.{ℕ}
use lib.ListN.{length, length-set}
use Rattle.address.specs.declared.matching.Match.TheVariants.{Own, General, Nothing}
use Rattle.address.specs.declared.matching.Match.{Match}
use Rattle.address.specs.declared.number.Direction.TheVariants.{Write, Read}
use Rattle.control.specs.declared.flags.Control.{Control}
use Rattle.control.specs.declared.turn.Called.TheVariants as called
use Rattle.control.specs.declared.turn.Called.{Called}
use Rattle.control.specs.declared.turn.Edge.{Edge}
use Rattle.control.specs.declared.turn.Turn.{Turn}
use Rattle.controller.specs.Access.{indirect_at, read_sound, read_of, write_sound, write_of}
use Rattle.controller.specs.Condition.{own_start, other_start, other_stop, own_stop, addressed, address_byte}
use Rattle.controller.specs.Condition.{outbid, address_lost, data_lost, illegal_edge, data_held, clock_held, idle}
use Rattle.controller.specs.Event.{event_sound, event_of}
use Rattle.controller.specs.I2ccon.{controlled, enabled, write_flags, write_control}
use Rattle.controller.specs.Registers.{wrote, write_pointer, read_data, write_data, write_at_pointer}
use Rattle.controller.specs.Reply.{Outcome, refuses, accepts, waits_for, interrupts_at, changes_status}
use Rattle.controller.specs.Reset.{reset_with, reset, write_preset}
use Rattle.controller.specs.Transfer.{data_out, byte_out, received, data_in, slave_in, byte_in}
use Rattle.controller.specs.declared.record.Controller.{Controller}
use Rattle.notation.proofs.Cases.{split}
use Rattle.notation.specs.Choice.{when◌then◌else◌}
use Rattle.requests.specs.Groups.{group_of}

-- the outcome's record has as many places
pub record Sized (c : Controller) (o : Outcome) : Type 0 where
  pub places : length o.next.buffer ≡ length c.buffer

-- the ends of the rules
refused : (c : Controller) (n : ℕ) → Sized c (refuses c n)
unfolding refuses
refused c n = record { places = refl }

accepted : (c d : Controller) (v : ℕ) → length d.buffer ≡ length c.buffer → Sized c (accepts d v)
unfolding accepts
accepted c d v e = record { places = e }

waiting : (c d : Controller) (t : Turn) (v : ℕ) → length d.buffer ≡ length c.buffer → Sized c (waits_for d t v)
unfolding waits_for
waiting c d t v e = accepted c _ v e

interrupted : (c d : Controller) (s : ℕ) (b : Edge) (v : ℕ) → length d.buffer ≡ length c.buffer → Sized c (interrupts_at d s b v)
unfolding interrupts_at
interrupted c d s b v e = accepted c _ v e

changed : (c d : Controller) (s : ℕ) → length d.buffer ≡ length c.buffer → Sized c (changes_status d s)
unfolding changes_status
changed c d s e = accepted c _ _ e

written : (c d : Controller) → length d.buffer ≡ length c.buffer → Sized c (wrote d)
unfolding wrote
written c d e = accepted c _ _ e

reset-done : (c : Controller) (v : ℕ) → Sized c (accepts (reset c) v)
unfolding reset_with
reset-done c v = accepted c _ v refl

choose : (c : Controller) (b : Bool) (x y : Outcome) → Sized c x → Sized c y → Sized c (when b then x else y)
choose c b x y p q = split (Sized c) b x y (λ _. p) (λ _. q)

ruleset ends = (refused, accepted, waiting, interrupted, changed, written, reset-done, choose, length-set, refl)

-- a match, the address called, and what I2CCON's write leads to, by their cases
found : (c : Controller) (m : Match) → Sized c (addressed c m)
unfolding addressed
found c General = search ends
found c (Own Write) = search ends
found c (Own Read) = search ends
found c Nothing = search ends

overtaken : (c : Controller) (m : Match) → Sized c (outbid c m)
unfolding outbid
overtaken c General = search ends
overtaken c (Own Write) = search ends
overtaken c (Own Read) = search ends
overtaken c Nothing = search ends

slave_in_lem : (c : Controller) (byte : ℕ) (w : Called) → Sized c (slave_in c byte w)
unfolding slave_in data_in received
slave_in_lem c byte called.Own = search ends
slave_in_lem c byte called.General = search ends

enabling : (c : Controller) (k : Control) (r : Option Turn) → Sized c (enabled c k r)
unfolding enabled controlled
enabling c k None = search ends
enabling c k (Some t) = search ends

pub event-sized : (c : Controller) (number argument : ℕ) → Sized c (event_of c number argument)
unfolding event_of event_sound own_start other_start other_stop own_stop address_byte address_lost data_lost illegal_edge data_held clock_held idle byte_out data_out byte_in
    data_in received
event-sized c number argument = search (found, overtaken, slave_in_lem, ends) depth 40

pub write-sized : (c : Controller) (register value : ℕ) → Sized c (write_of c register value)
unfolding write_of write_sound indirect_at write_pointer write_data write_at_pointer write_preset write_control write_flags controlled
write-sized c register value = search (enabling, ends) depth 20

pub read-sized : (c : Controller) (register : ℕ) → Sized c (read_of c register)
unfolding read_of read_sound read_data
read-sized c register = search ends depth 12

pub group_sized : (c : Controller) (kind place value : ℕ) → Sized c (group_of c kind place value)
unfolding group_of
group_sized c kind place value = search (choose, read-sized, write-sized, event-sized)
