-- What a sound record obeys, condition by condition, and back. Assumes nothing.
use mathlib.Core.Bool.{Bool, true, false}
use mathlib.Core.Path.{◌≡◌, refl, sym, ◌∙◌}
use Prim.Native.Nat.{◌≤◌, ◌<◌}
use native.Mathlib.Omega.{arith}
use borrow.Author.Tests.{leb-true, ltb-true, eqb-true, le-leb}
use lib.Dec.{leb, ltb, eqb}
use Rattle.control.specs.Turn.{kind, data_turns}
use Rattle.controller.specs.Record.{byte_count, host_sound, move_sound, sound}
use Rattle.controller.specs.Transfer.{cursor}
use Rattle.controller.specs.declared.record.Controller.{Controller}
use Rattle.notation.proofs.Cases.{when-true, when-false, and-true, and_left, and_right}
use Rattle.notation.specs.Choice.{when◌then◌else◌, ◌and◌, among}

pub record Sound (c : Controller) : Type 0 where
  pub pointer : c.pointer ≤ 7
  pub hand : c.hand ≤ 68
  pub moved : c.moved ≤ 68
  pub speed : c.registers.speed ≤ 3
  pub host : host_sound c.turn ≡ true
  pub move : move_sound c ≡ true

pub parts : (c : Controller) → sound c ≡ true → Sound c
unfolding sound
parts c e =
    let e₁ = and_right (leb c.pointer 7) _ e in
    let e₂ = and_right (leb c.hand 68) _ e₁ in
    let e₃ = and_right (leb c.moved 68) _ e₂ in
    let e₄ = and_right (leb c.registers.speed 3) _ e₃ in
    record {
      pointer = leb-true _ _ (and_left (leb c.pointer 7) _ e);
      hand = leb-true _ _ (and_left (leb c.hand 68) _ e₁);
      moved = leb-true _ _ (and_left (leb c.moved 68) _ e₂);
      speed = leb-true _ _ (and_left (leb c.registers.speed 3) _ e₃);
      host = and_left (host_sound c.turn) _ e₄;
      move = and_right (host_sound c.turn) _ e₄;
    }

pub whole : (c : Controller) → Sound c → sound c ≡ true
unfolding sound
whole c s =
    and-true _ _ (le-leb _ _ s.pointer) (and-true _ _ (le-leb _ _ s.hand) (and-true _ _ (le-leb _ _ s.moved)
    (and-true _ _ (le-leb _ _ s.speed) (and-true _ _ s.host s.move))))

-- in a turn that moves data, there is a place for the next byte
pub moving : (c : Controller) → sound c ≡ true → among (kind c.turn) data_turns ≡ true → c.moved < 68
unfolding move_sound
moving c e t = go c.control.mode (sym (when-true (among (kind c.turn) data_turns) _ _ t) ∙ (parts c e).move)
  where
    go : (mode : Bool) → (when mode then ltb c.moved (byte_count c) and leb (byte_count c) 68 else eqb c.moved 0) ≡ true → c.moved < 68
    go true h =
        let g = sym (when-true true (ltb c.moved (byte_count c) and leb (byte_count c) 68) (eqb c.moved 0) refl) ∙ h in
        let low = ltb-true c.moved (byte_count c) (and_left _ _ g) in
        let high = leb-true (byte_count c) 68 (and_right (ltb c.moved (byte_count c)) _ g) in
        omega arith
    go false h =
        let zero = eqb-true c.moved 0 (sym (when-false false (ltb c.moved (byte_count c) and leb (byte_count c) 68) (eqb c.moved 0) refl) ∙ h) in
        omega arith

-- and the cursor is that place, or 0
pub cursor-below : (c : Controller) → c.moved < 68 → cursor c < 68
unfolding cursor when◌then◌else◌
cursor-below c h = go c.control.mode
  where
    go : (mode : Bool) → (when mode then c.moved else 0) < 68
    go true = h
    go false = omega arith
