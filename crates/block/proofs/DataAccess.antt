-- One access of I2CDAT, of any record: below the reach it is accepted, else refused, and the reach stays. Assumes nothing.
use mathlib.Core.Bool.{Bool, true, false}
use mathlib.Core.List.{List}
use mathlib.Core.Path.{◌≡◌, refl, sym, ap, ◌∙◌}
use Prim.Native.Nat.{ℕ, ◌+◌, ◌≤◌, ◌<◌}
use native.Mathlib.Omega.{arith}
use borrow.Author.Tests.{ne_eqb, eq-eqb}
use lib.Dec.{eqb}
use lib.ListN.{set}
use Rattle.control.specs.Turn.{waits, wire_turns}
use Rattle.controller.proofs.SoundParts.{parts, whole}
use Rattle.controller.specs.Access.{read_of, write_of, read_sound, write_sound, bars_read, bars_write, indirect_at}
use Rattle.controller.specs.Record.{place, sound, move_sound}
use Rattle.controller.specs.Registers.{read_data, write_data, wrote}
use Rattle.controller.specs.Reply.{Outcome, accepts, refuses}
use Rattle.controller.specs.Setters.{with_buffer, with_hand, with_armed}
use Rattle.controller.specs.declared.record.Controller.{Controller}
use Rattle.block.specs.Block.{reach_of}
use Rattle.notation.proofs.Cases.{cases, when-true, when-false}
use Rattle.notation.specs.Choice.{when◌then◌else◌}

-- the hand place is below the reach: no refusal 10, 3 or 7
record Inside (c : Controller) : Type 0 where
  pub sound : sound c ≡ true
  pub wire : waits c.turn wire_turns ≡ false
  pub hand : c.hand < 68

inside : (c : Controller) → c.hand < reach_of c → Inside c
unfolding reach_of when◌then◌else◌
inside c h = go (sound c) (waits c.turn wire_turns) refl refl h
  where
    go : (s w : Bool) → sound c ≡ s → waits c.turn wire_turns ≡ w → c.hand < (when s then (when w then 0 else 68) else 0) → Inside c
    go true false e f l = record { sound = e; wire = f; hand = l }
    go true true e f l = absurd (omega arith)
    go false w e f l = absurd (omega arith)

pub reach_most : (c : Controller) → reach_of c ≤ 68
unfolding reach_of when◌then◌else◌
reach_most c = go (sound c) (waits c.turn wire_turns)
  where
    go : (s w : Bool) → (when s then (when w then 0 else 68) else 0) ≤ 68
    go true false = omega arith
    go true true = omega arith
    go false w = omega arith

reach_whole : (c : Controller) → sound c ≡ true → waits c.turn wire_turns ≡ false → reach_of c ≡ 68
unfolding reach_of
reach_whole c e f = when-true (sound c) _ _ e ∙ when-false (waits c.turn wire_turns) _ _ f

-- the record after an accepted access, whatever became of the buffer and of `armed`
abbrev pub accessed : Controller → List ℕ → Bool → Controller
accessed c buffer armed = with_armed (with_hand (with_buffer c buffer) (c.hand + 1)) armed

-- the next access finds the same reach
pub reach_stays : (c : Controller) (buffer : List ℕ) (armed : Bool) → c.hand < reach_of c → reach_of (accessed c buffer armed) ≡ reach_of c
unfolding move_sound
reach_stays c buffer armed h =
    let i = inside c h in
    let s = parts c i.sound in
    let next = whole (accessed c buffer armed) (record {
      pointer = s.pointer;
      hand = omega arith;
      moved = s.moved;
      speed = s.speed;
      host = s.host;
      move = s.move;
    }) in
    reach_whole (accessed c buffer armed) next i.wire ∙ sym (reach_whole c i.sound i.wire)

-- the tests of the rules: the hand place below the reach, and the three ways not to be
below : (n : ℕ) → n < 68 → eqb n 68 ≡ false
below n h = ne_eqb n 68 (λ (e : n ≡ 68). omega (arith, e, h))

outside : (A : Type 0) (c : Controller) → reach_of c ≤ c.hand → (sound c ≡ false → A) →
    (sound c ≡ true → waits c.turn wire_turns ≡ true → A) →
    (sound c ≡ true → waits c.turn wire_turns ≡ false → eqb c.hand 68 ≡ true → A) → A
outside A c h unsound wire full = go (sound c) (waits c.turn wire_turns) refl refl
  where
    go : (s w : Bool) → sound c ≡ s → waits c.turn wire_turns ≡ w → A
    go false w e f = unsound e
    go true true e f = wire e f
    go true false e f = full e f (eq-eqb c.hand 68 (omega (arith, h, reach_whole c e f, (parts c e).hand)))

-- what an access leaves and gives
abbrev pub Gives : Outcome → Controller → ℕ → Type 0
Gives o next value = (o.next ≡ next) × (o.value ≡ value)

accepted : (o : Outcome) (next : Controller) (value : ℕ) → o ≡ accepts next value → Gives o next value
unfolding accepts
accepted o next value e = (ap (λ (p : Outcome). p.next) e, ap (λ (p : Outcome). p.value) e)

refused : (o : Outcome) (c : Controller) (number : ℕ) → o ≡ refuses c number → Gives o c 0
unfolding refuses
refused o c number e = (ap (λ (p : Outcome). p.next) e, ap (λ (p : Outcome). p.value) e)

-- an access below the reach, and one that is not
pub read-inside : (c : Controller) → c.hand < reach_of c → Gives (read_of c 1) (accessed c c.buffer c.armed) (place c c.hand)
unfolding read_of read_sound read_data bars_read indirect_at
read-inside c h =
    let i = inside c h in
    accepted (read_of c 1) (accessed c c.buffer c.armed) (place c c.hand) (search (i.sound, i.wire, below c.hand i.hand, cases))

pub write-inside : (c : Controller) (x : ℕ) → c.hand < reach_of c → Gives (write_of c 1 x) (accessed c (set c.buffer c.hand x) false) 0
unfolding write_of write_sound write_data wrote bars_write indirect_at
write-inside c x h =
    let i = inside c h in
    accepted (write_of c 1 x) (accessed c (set c.buffer c.hand x) false) 0 (search (i.sound, i.wire, below c.hand i.hand, cases))

pub read-outside : (c : Controller) → reach_of c ≤ c.hand → Gives (read_of c 1) c 0
unfolding read_of read_sound read_data bars_read indirect_at
read-outside c h =
    let by = refused (read_of c 1) c in
    outside _ c h (λ s. by 10 (search (s, cases))) (λ s w. by 3 (search (s, w, cases))) (λ s w e. by 7 (search (s, w, e, cases)))

pub write-outside : (c : Controller) (x : ℕ) → reach_of c ≤ c.hand → Gives (write_of c 1 x) c 0
unfolding write_of write_sound write_data wrote bars_write indirect_at
write-outside c x h =
    let by = refused (write_of c 1 x) c in
    outside _ c h (λ s. by 10 (search (s, cases))) (λ s w. by 3 (search (s, w, cases))) (λ s w e. by 7 (search (s, w, e, cases)))
