-- What the driver's register accesses leave, where a job makes them. Assumes nothing.
use mathlib.Core.Bool.{true, false}
use mathlib.Core.Path.{◌≡◌, refl, ap, ◌∙◌}
use Prim.Native.Nat.{ℕ, ◌+◌, ◌%◌, ◌<◌}
use native.Mathlib.Omega.{arith}
use borrow.Author.Tests.{ne_eqb}
use lib.Dec.{eqb}
use Rattle.std.specs.Prelude.{Some}
use Rattle.control.specs.Flags.{flags_of}
use Rattle.control.specs.Turn.{faults, wire_turns, kind, status_of}
use Rattle.control.specs.Writing.{response}
use Rattle.control.specs.declared.flags.Control.{Control}
use Rattle.control.specs.declared.turn.Turn.{Turn}
use Rattle.controller.specs.Access.{indirect_at, bars_read, bars_write, read_sound, read_of, write_sound, write_of}
use Rattle.controller.specs.I2ccon.{keeps, controlled, bad_count, enabled, write_flags, write_control}
use Rattle.controller.specs.Record.{place, sound}
use Rattle.controller.specs.Setters.{with_place, with_hand, with_moved, with_pointer, with_armed, with_registers, with_control, with_turn}
use Rattle.controller.specs.Registers.{wrote, write_pointer, read_data, write_data, at_pointer, stored, with_count, write_at_pointer}
use Rattle.controller.specs.Reply.{Outcome, refuses, accepts}
use Rattle.controller.specs.declared.record.Controller.{Controller}
use Rattle.notation.proofs.Cases.{and_no_right, split}
use Rattle.notation.specs.Choice.{when◌then◌else◌, ◌and◌, ◌or◌, among}
use Rattle.service.specs.Act.{put}

pub not-refused : (o : Outcome) (c : Controller) (v : ℕ) → o ≡ accepts c v → o.refused ≡ 0
unfolding accepts
not-refused o c v e = ap (λ (x : Outcome). x.refused) e

-- the record after an accepted I2CCON write
abbrev pub controlled_to : Controller → Control → Turn → Controller
controlled_to c k t = with_armed (with_turn (with_control (with_moved (with_hand c 0) 0) (keeps c.control k t)) t) false

-- an I2CCON write with ENSIO 1 that the rules list
listed : (c : Controller) (value : ℕ) (t : Turn) → sound c ≡ true → among (kind c.turn) wire_turns ≡ false →
    among (status_of c.turn) faults ≡ false → (flags_of value).ensio ≡ true → response c.turn (flags_of value) ≡ Some t →
    bad_count c (flags_of value) t ≡ false → write_of c 3 value ≡ accepts (controlled_to c (flags_of value) t) 0
unfolding write_of write_sound indirect_at bars_write write_control write_flags enabled controlled wrote when◌then◌else◌ ◌and◌ ◌or◌
listed c value t s w l e r b = rw (s, w, l, r, b, e)

pub control-accepted : (c : Controller) (value : ℕ) (u t : Turn) → sound c ≡ true → c.turn ≡ u → among (kind u) wire_turns ≡ false →
    among (status_of u) faults ≡ false → (flags_of value).ensio ≡ true → response u (flags_of value) ≡ Some t →
    bad_count c (flags_of value) t ≡ false → write_of c 3 value ≡ accepts (controlled_to c (flags_of value) t) 0
control-accepted c value u t s h w l e r b =
    listed c value t s (ap (λ (x : Turn). among (kind x) wire_turns) h ∙ w) (ap (λ (x : Turn). among (status_of x) faults) h ∙ l) e
    (ap (λ (x : Turn). response x (flags_of value)) h ∙ r) b

pub control-written : (c : Controller) (value : ℕ) (u t : Turn) → sound c ≡ true → c.turn ≡ u → among (kind u) wire_turns ≡ false →
    among (status_of u) faults ≡ false → (flags_of value).ensio ≡ true → response u (flags_of value) ≡ Some t →
    bad_count c (flags_of value) t ≡ false → put c 3 value ≡ controlled_to c (flags_of value) t
unfolding put accepts
control-written c value u t s h w l e r b = ap (λ (o : Outcome). o.next) (control-accepted c value u t s h w l e r b)

-- an I2CDAT write out of the wire turns
abbrev pub data_written : Controller → ℕ → Controller
data_written c x = with_armed (with_hand (with_place c c.hand x) (c.hand + 1)) false

pub data_accepted : (c : Controller) (x : ℕ) → sound c ≡ true → among (kind c.turn) wire_turns ≡ false → eqb c.hand 68 ≡ false →
    write_of c 1 x ≡ accepts (data_written c x) 0
unfolding write_of write_sound indirect_at bars_write write_data wrote when◌then◌else◌ ◌and◌ ◌or◌
data_accepted c x s w h = rw (s, w, h)

pub data_written_lem : (c : Controller) (x : ℕ) → sound c ≡ true → among (kind c.turn) wire_turns ≡ false → c.hand < 68 →
    put c 1 x ≡ data_written c x
unfolding put accepts
data_written_lem c x s w h = ap (λ (o : Outcome). o.next) (data_accepted c x s w (ne_eqb c.hand 68 (omega arith)))

-- INDPTR is written in any turn
pub pointer-accepted : (c : Controller) (x : ℕ) → sound c ≡ true → write_of c 0 x ≡ accepts (with_armed (with_pointer c (x % 8)) false) 0
unfolding write_of write_sound indirect_at bars_write write_pointer wrote when◌then◌else◌ ◌and◌ ◌or◌
pointer-accepted c x s = rw s

pub pointer-written : (c : Controller) (x : ℕ) → sound c ≡ true → put c 0 x ≡ with_armed (with_pointer c (x % 8)) false
unfolding put accepts
pointer-written c x s = ap (λ (o : Outcome). o.next) (pointer-accepted c x s)

-- I2CCOUNT, register 2 with the pointer at 00h
pub count-accepted : (c : Controller) (x : ℕ) → sound c ≡ true → among (kind c.turn) wire_turns ≡ false → c.pointer ≡ 0 →
    write_of c 2 x ≡ accepts (with_armed (with_registers c (with_count c.registers x)) false) 0
unfolding write_of write_sound indirect_at bars_write write_at_pointer stored wrote when◌then◌else◌ ◌and◌ ◌or◌
count-accepted c x s w p = rw (s, p, w)

pub count-written : (c : Controller) (x : ℕ) → sound c ≡ true → among (kind c.turn) wire_turns ≡ false → c.pointer ≡ 0 →
    put c 2 x ≡ with_armed (with_registers c (with_count c.registers x)) false
unfolding put accepts
count-written c x s w p = ap (λ (o : Outcome). o.next) (count-accepted c x s w p)

-- an I2CDAT read out of the wire turns
pub data_read : (c : Controller) → sound c ≡ true → among (kind c.turn) wire_turns ≡ false → c.hand < 68 →
    read_of c 1 ≡ accepts (with_hand c (c.hand + 1)) (place c c.hand)
unfolding read_of read_sound indirect_at bars_read read_data when◌then◌else◌ ◌and◌
data_read c s w h = rw (s, w, ne_eqb c.hand 68 (omega arith))

-- register 2 is read with the pointer at 07h, in any turn
pub moved-accepted : (c : Controller) → sound c ≡ true → c.pointer ≡ 7 → read_of c 2 ≡ accepts c (at_pointer c)
unfolding read_of read_sound indirect_at bars_read when◌then◌else◌ ◌and◌
moved-accepted c s p = rw (s, p, and_no_right (among (kind c.turn) wire_turns) false refl)

-- a read of register 2 changes nothing
pub count-read : (c : Controller) → (read_of c 2).next ≡ c
unfolding read_of read_sound refuses accepts when◌then◌else◌
count-read c =
    split P (sound c) _ _ (λ _. split P (indirect_at c 2 5) _ _ (λ _. refl) (λ _. split P (bars_read c 2) _ _ (λ _. refl) (λ _. refl))) (λ _. refl)
  where
    P : Outcome → Type 0
    P o = o.next ≡ c
