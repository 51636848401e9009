-- Reads and writes of a sound record leave a sound one. Assumes nothing.
use Rattle.std.specs.Prelude.{Option, Some, None}
use mathlib.Core.Bool.{Bool, true, false, not, true≢false}
use mathlib.Core.List.{List, [], ◌∷◌}
use mathlib.Core.Path.{◌≡◌, refl, sym, ap, ◌∙◌}
use Prim.Native.Nat.{ℕ, ◌≤◌, ◌+◌, ◌%◌}
use native.Mathlib.Omega.{arith}
use borrow.Author.Tests.{eqb-false, ltb-false, le-leb, lt-ltb}
use lib.Dec.{eqb, leb, ltb, lit≤}
use Rattle.control.specs.Flags.{flags_of}
use Rattle.control.specs.Turn.{off, host, wire_turns, data_turns, kind, status_of, edge_of, at38h}
use Rattle.control.specs.Writing.{end_or, after_edge, responds_at, response}
use Rattle.control.specs.declared.flags.Control.{Control}
use Rattle.control.specs.declared.reason.Reason.{Reason}
use Rattle.control.specs.declared.turn.Edge.TheVariants.{Stop, Start}
use Rattle.control.specs.declared.turn.Edge.{Edge}
use Rattle.control.specs.declared.turn.Turn.TheVariants as turn
use Rattle.control.specs.declared.turn.Turn.{Turn}
use Rattle.controller.proofs.SoundParts.{parts, whole}
use Rattle.controller.specs.Access.{bars_write, indirect_at, read_sound, write_sound}
use Rattle.controller.specs.I2ccon.{keeps, controlled, bad_count, enabled, without_start, write_flags, write_control}
use Rattle.controller.specs.Record.{byte_count, host_sound, move_sound, sound}
use Rattle.controller.specs.Setters.{with_place, with_hand, with_pointer, with_armed, with_registers}
use Rattle.controller.specs.Registers.{wrote, write_pointer, read_data, write_data, stored, write_at_pointer}
use Rattle.controller.specs.Reset.{reset_with, completes_reset, write_preset}
use Rattle.controller.specs.declared.record.Controller.{Controller}
use Rattle.controller.specs.declared.record.Registers.{Registers}
use Rattle.notation.proofs.Among.{has, among-has, none_of, without}
use Rattle.notation.proofs.Cases.{when-false, and-true, and-on, and_no_left, and_no_right, or-false, or-left-off, or_right_off, split}
use Rattle.notation.specs.Choice.{when◌then◌else◌, ◌and◌, ◌or◌, among}
use Rattle.laws.proofs.Kept.{Kept, ranges, quiet-sound, given-sound, refused, accepted, either, off-quiet}

-- the reset record, whatever the buffer and the reason
pub reset-sound : (buffer : List ℕ) (reason : Reason) → sound (reset_with buffer reason) ≡ true
unfolding reset_with kind
reset-sound buffer reason =
    quiet-sound (reset_with buffer reason) (record { pointer = lit≤ tt; hand = lit≤ tt; moved = lit≤ tt; speed = lit≤ tt }) off-quiet

-- the flag that arms the software reset does not count
armed-sound : (c : Controller) (x : Bool) → sound c ≡ true → sound (with_armed c x) ≡ true
unfolding sound move_sound
armed-sound c x s = s

written : (c : Controller) → sound c ≡ true → Kept (wrote c)
unfolding wrote
written c s = accepted _ 0 (armed-sound c false s)

write_preset_lem : (c : Controller) (value : ℕ) → sound c ≡ true → Kept (write_preset c value)
unfolding write_preset
write_preset_lem c value s =
    either (completes_reset c value) _ _ (accepted _ 0 (reset-sound c.buffer _)) (accepted _ 0 (armed-sound c _ s))

write-pointer : (c : Controller) (value : ℕ) → sound c ≡ true → Kept (write_pointer c value)
unfolding write_pointer move_sound
write-pointer c value s =
    let p = parts c s in
    written (with_pointer c (value % 8))
    (whole (with_pointer c (value % 8)) (record { pointer = omega arith; hand = p.hand; moved = p.moved; speed = p.speed; host = p.host; move = p.move }))

-- the hand place moves on by one, up to 68
hand-sound : (c : Controller) → sound c ≡ true → eqb c.hand 68 ≡ false → sound (with_hand c (c.hand + 1)) ≡ true
unfolding move_sound
hand-sound c s e =
    let p = parts c s in
    let n = eqb-false c.hand 68 e in
    let h = p.hand in
    whole (with_hand c (c.hand + 1)) (record { pointer = p.pointer; hand = omega arith; moved = p.moved; speed = p.speed; host = p.host; move = p.move })

read_data_lem : (c : Controller) → sound c ≡ true → Kept (read_data c)
unfolding read_data
read_data_lem c s = split Kept (eqb c.hand 68) _ _ (λ e. refused c 7 s) (λ e. accepted _ _ (hand-sound c s e))

write_data_lem : (c : Controller) (value : ℕ) → sound c ≡ true → Kept (write_data c value)
unfolding write_data sound move_sound
write_data_lem c value s =
    split Kept (eqb c.hand 68) _ _ (λ e. refused c 7 s)
    (λ e. written (with_hand (with_place c c.hand value) (c.hand + 1)) (hand-sound c s e))

stored-speed : (g : Registers) (pointer value : ℕ) → g.speed ≤ 3 → (stored g pointer value).speed ≤ 3
unfolding stored
stored-speed g pointer value h =
    let P : Registers → Type 0 = λ r. r.speed ≤ 3 in
    split P (eqb pointer 0) _ _ (λ e. h) (λ e. split P (eqb pointer 1) _ _ (λ e. h) (λ e. split P (eqb pointer 2) _ _ (λ e. h)
    (λ e. split P (eqb pointer 3) _ _ (λ e. h) (λ e. split P (eqb pointer 4) _ _ (λ e. h) (λ e. omega arith)))))

-- a register is written only out of the wire turns, where BC bounds no move
write-at-pointer : (c : Controller) (value : ℕ) → sound c ≡ true → (eqb c.pointer 5 ≡ false → among (kind c.turn) wire_turns ≡ false) →
    Kept (write_at_pointer c value)
unfolding write_at_pointer move_sound
write-at-pointer c value s idle =
    let p = parts c s in
    let g = stored c.registers c.pointer value in
    split Kept (eqb c.pointer 5) _ _ (λ e. write_preset_lem c value s)
    (λ e. written (with_registers c g)
    (whole (with_registers c g)
    (record {
      pointer = p.pointer;
      hand = p.hand;
      moved = p.moved;
      speed = stored-speed c.registers c.pointer value p.speed;
      host = p.host;
      move = when-false _ _ _ (without (kind c.turn) data_turns wire_turns tt (idle e));
    })))

-- A write to I2CCON: moved is 0, and BC is in range where a buffered data move starts.
module _ (c : Controller) (k : Control) (t : Turn) (s : sound c ≡ true) (h : host_sound t ≡ true) where
  control-written : bad_count c k t ≡ false → Kept (controlled c k t)
  unfolding controlled bad_count keeps move_sound when◌then◌else◌
  control-written b =
      let r = ranges c s in
      written _
      (whole _ (record {
        pointer = r.pointer;
        hand = lit≤ tt;
        moved = lit≤ tt;
        speed = r.speed;
        host = h;
        move = moves k.mode (among (kind t) data_turns) b;
      }))
    where
      moves : (mode data-turn : Bool) → (mode and data-turn and (eqb (byte_count c) 0 or ltb 68 (byte_count c))) ≡ false →
          (when data-turn then (when mode then ltb 0 (byte_count c) and leb (byte_count c) 68 else eqb 0 0) else true) ≡ true
      moves mode false e = refl
      moves false true e = refl
      moves true true e =
          let outside = eqb (byte_count c) 0 or ltb 68 (byte_count c) in
          let f = sym (and-on true (true and outside) refl ∙ and-on true outside refl) ∙ e in
          let some = eqb-false (byte_count c) 0 (or-left-off (eqb (byte_count c) 0) (ltb 68 (byte_count c)) f) in
          let few = ltb-false 68 (byte_count c) (or_right_off (eqb (byte_count c) 0) (ltb 68 (byte_count c)) f) in
          and-true (ltb 0 (byte_count c)) (leb (byte_count c) 68) (lt-ltb 0 (byte_count c) (omega arith)) (le-leb (byte_count c) 68 few)

-- Where a write leads: not to Host, so that SI is cleared, save where it is held at 38h; and to Host only at a status that the rules give.
abbrev NotHost : Option Turn → Type 0
NotHost (Some t) = among (kind t) (host ∷ []) ≡ false
NotHost None = Unit {0}

abbrev Given : Option Turn → Type 0
Given (Some t) = host_sound t ≡ true
Given None = Unit {0}

pub record WriteLeads (held : Bool) (r : Option Turn) : Type 0 where
  pub clears : held ≡ false → NotHost r
  pub given : Given r

choose : (held b : Bool) (x y : Option Turn) → (b ≡ true → WriteLeads held x) → (b ≡ false → WriteLeads held y) →
    WriteLeads held (when b then x else y)
choose held b x y p q = split (WriteLeads held) b x y p q

unlisted : (held : Bool) → WriteLeads held None
unlisted held = record { clears = λ n. tt; given = tt }

leads : (held : Bool) (t : Turn) → has (host ∷ []) (kind t) ≡ false → WriteLeads held (Some t)
unfolding host_sound
leads held t h =
    let other = among-has (kind t) (host ∷ []) ∙ h in
    record { clears = λ n. other; given = when-false _ _ _ other }

-- at 38h itself
stays : (status : ℕ) (edge : Edge) → among status (0x38 ∷ []) ≡ true → WriteLeads (eqb status 0x38) (Some (turn.Host 0x38 edge))
stays status edge e = record {
  clears = λ n. absurd (true≢false (sym e ∙ none_of (0x38 ∷ []) status (eqb-false status 0x38 n)));
  given = given-sound 0x38 edge tt;
}

ends-clears : (held : Bool) (k : Control) (r : Option Turn) → WriteLeads held r → WriteLeads held (end_or k r)
unfolding end_or kind
ends-clears held k r h = search (choose, leads)

edge_clears : (held : Bool) (e : Edge) → WriteLeads held (Some (after_edge e))
unfolding after_edge kind
edge_clears held Stop = search leads
edge_clears held Start = search leads

status-clears : (status : ℕ) (edge : Edge) (k : Control) → WriteLeads (eqb status 0x38) (responds_at status edge k)
unfolding responds_at kind
status-clears status edge k = search (choose, unlisted, leads, stays, ends-clears, edge_clears) depth 30

pub response-clears : (t : Turn) (k : Control) → WriteLeads (at38h t) (response t k)
unfolding response kind
response-clears t k =
    choose _ (among (kind t) (off ∷ [])) _ _ (λ e. leads _ turn.Free refl)
    (λ e. choose _ (among (kind t) (host ∷ [])) _ _ (λ e. status-clears (status_of t) (edge_of t) k)
    (λ e. leads _ t (sym (among-has (kind t) (host ∷ [])) ∙ e)))

enabling : (c : Controller) (k : Control) (held : Bool) (r : Option Turn) → sound c ≡ true → WriteLeads held r → Kept (enabled c k r)
unfolding enabled
enabling c k held None s h = refused c 5 s
enabling c k held (Some t) s h = split Kept (bad_count c k t) _ _ (λ e. refused c 6 s) (λ e. control-written c k t s h.given e)

write-flags : (c : Controller) (k : Control) → sound c ≡ true → Kept (write_flags c k)
unfolding write_flags bad_count host_sound
write-flags c k s =
    either _ _ _ (refused c 4 s)
    (either k.ensio _ _ (enabling c k _ (response c.turn k) s (response-clears c.turn k))
    (control-written c (without_start k) turn.Off s (when-false _ _ _ off-quiet.0) (and_no_right k.mode _ (and_no_left _ _ off-quiet.1))))

write-control : (c : Controller) (value : ℕ) → sound c ≡ true → Kept (write_control c value)
unfolding write_control
write-control c value s = write-flags c (flags_of value) s

pub read_kept : (c : Controller) (register : ℕ) → sound c ≡ true → Kept (read_sound c register)
unfolding read_sound
read_kept c register s = search (refused, accepted, either, read_data_lem) depth 12

pub write_kept : (c : Controller) (register value : ℕ) → sound c ≡ true → Kept (write_sound c register value)
unfolding write_sound bars_write indirect_at
write_kept c register value s =
    either _ _ _ (refused c 9 s)
    (split Kept (bars_write c register) _ _ (λ e. refused c 3 s)
    (λ bars. split Kept (eqb register 0) _ _ (λ e. write-pointer c value s)
    (λ other. either (eqb register 1) _ _ (write_data_lem c value s)
    (either (eqb register 2) _ _ (write-at-pointer c value s (λ p. sym (and-on _ _ (ap not (or-false _ _ other (and_no_right _ _ p)))) ∙ bars))
    (write-control c value s)))))
