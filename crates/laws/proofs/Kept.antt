-- When an outcome's record is sound: by the ends that every rule has.
-- Assumes nothing.
use mathlib.Core.Bool.{Bool, true, false}
use mathlib.Core.List.{[], ◌∷◌}
use mathlib.Core.Path.{◌≡◌, refl, ◌∙◌}
use Prim.Native.Nat.{ℕ, ◌≤◌}
use lib.Dec.{T, lit≤}
use Rattle.control.specs.Turn.{off, host, free, busy, listen, data_turns, kind, status_of}
use Rattle.control.specs.declared.turn.Edge.TheVariants.{Stop}
use Rattle.control.specs.declared.turn.Edge.{Edge}
use Rattle.control.specs.declared.turn.Turn.TheVariants as turn
use Rattle.control.specs.declared.turn.Turn.{Turn}
use Rattle.controller.proofs.SoundParts.{parts, whole}
use Rattle.controller.specs.Record.{given_statuses, host_sound, move_sound, sound}
use Rattle.controller.specs.Setters.{with_turn, with_hand}
use Rattle.controller.specs.Reply.{Outcome, refuses, accepts, waits_for, with_status, interrupts_at, changes_status}
use Rattle.controller.specs.declared.record.Controller.{Controller}
use Rattle.notation.proofs.Among.{is_true, has, among-has}
use Rattle.notation.proofs.Cases.{when-true, when-false, split}
use Rattle.notation.specs.Choice.{when◌then◌else◌, among}

-- the outcome's record is sound
pub record Kept (o : Outcome) : Type 0 where
  pub next-sound : sound o.next ≡ true

-- the ranges of a sound record that do not depend on the turn
pub record Ranges (c : Controller) : Type 0 where
  pub pointer : c.pointer ≤ 7
  pub hand : c.hand ≤ 68
  pub moved : c.moved ≤ 68
  pub speed : c.registers.speed ≤ 3

pub ranges : (c : Controller) → sound c ≡ true → Ranges c
ranges c s = let p = parts c s in record { pointer = p.pointer; hand = p.hand; moved = p.moved; speed = p.speed }

-- a turn that is neither Host nor moves data asks for the ranges alone
abbrev pub Quiet : Turn → Type 0
Quiet t = (among (kind t) (host ∷ []) ≡ false) × (among (kind t) data_turns ≡ false)

pub quiet-sound : (c : Controller) → Ranges c → Quiet c.turn → sound c ≡ true
unfolding host_sound move_sound
quiet-sound c r q =
    whole c (record {
      pointer = r.pointer;
      hand = r.hand;
      moved = r.moved;
      speed = r.speed;
      host = when-false _ _ _ q.0;
      move = when-false _ _ _ q.1;
    })

-- Host at a status that the rules give
pub given-sound : (status : ℕ) (edge : Edge) → T (has given_statuses status) → host_sound (turn.Host status edge) ≡ true
unfolding host_sound kind status_of
given-sound status edge g =
    when-true (among host (host ∷ [])) _ _ (among-has host (host ∷ [])) ∙ among-has status given_statuses ∙ is_true _ g

pub host-sound : (c : Controller) (status : ℕ) (edge : Edge) → Ranges c → T (has given_statuses status) →
    c.turn ≡ turn.Host status edge → sound c ≡ true
unfolding move_sound kind
host-sound c status edge r g e =
    whole c (record {
      pointer = r.pointer;
      hand = r.hand;
      moved = r.moved;
      speed = r.speed;
      host = rw e (given-sound status edge g);
      move = rw e (when-false (among host data_turns) _ _ (among-has host data_turns));
    })

-- the ends of the rules
pub refused : (c : Controller) (n : ℕ) → sound c ≡ true → Kept (refuses c n)
unfolding refuses
refused c n s = record { next-sound = s }

pub accepted : (c : Controller) (v : ℕ) → sound c ≡ true → Kept (accepts c v)
unfolding accepts
accepted c v s = record { next-sound = s }

pub waiting : (c : Controller) (t : Turn) (v : ℕ) → Ranges c → Quiet t → Kept (waits_for c t v)
unfolding waits_for
waiting c t v r q =
    accepted _ v
    (quiet-sound (with_turn c t) (record { pointer = r.pointer; hand = r.hand; moved = r.moved; speed = r.speed }) q)

pub interrupted : (c : Controller) (status : ℕ) (edge : Edge) (v : ℕ) → Ranges c → T (has given_statuses status) → Kept (interrupts_at c status edge v)
unfolding interrupts_at
interrupted c status edge v r g =
    accepted _ v
    (host-sound (with_hand (with_status c status edge) 0) status edge
    (record { pointer = r.pointer; hand = lit≤ tt; moved = r.moved; speed = r.speed }) g refl)

pub status-changed : (c : Controller) (status : ℕ) → Ranges c → T (has given_statuses status) → Kept (changes_status c status)
unfolding changes_status
status-changed c status r g =
    accepted _ 0
    (host-sound (with_status c status Stop) status Stop (record { pointer = r.pointer; hand = r.hand; moved = r.moved; speed = r.speed }) g refl)

pub either : (b : Bool) (x y : Outcome) → Kept x → Kept y → Kept (when b then x else y)
either b x y p q = split Kept b x y (λ e. p) (λ e. q)

pub free-quiet : Quiet turn.Free
unfolding kind
free-quiet = (among-has free (host ∷ []), among-has free data_turns)

pub busy-quiet : Quiet turn.Busy
unfolding kind
busy-quiet = (among-has busy (host ∷ []), among-has busy data_turns)

pub listen-quiet : Quiet turn.Listen
unfolding kind
listen-quiet = (among-has listen (host ∷ []), among-has listen data_turns)

pub off-quiet : Quiet turn.Off
unfolding kind
off-quiet = (among-has off (host ∷ []), among-has off data_turns)

pub ruleset ends = (refused, accepted, waiting, interrupted, status-changed, either, free-quiet, busy-quiet, listen-quiet, off-quiet, ranges, tt)
