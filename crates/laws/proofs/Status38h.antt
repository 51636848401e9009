-- What leads out of 38h, and what a write there stores. Assumes nothing.
use mathlib.Core.Bool.{Bool, true, false, true≢false}
use mathlib.Core.List.{[], ◌∷◌}
use mathlib.Core.Path.{◌≡◌, refl, sym, ap, subst, ◌∙◌}
use Prim.Native.Nat.{ℕ, ◌≤◌}
use native.Mathlib.Omega.{arith}
use borrow.Author.Tests.{eqb-true, eqb-false, ltb-false}
use lib.Dec.{eqb, ltb}
use Rattle.control.proofs.Turning.{at38h-host}
use Rattle.control.specs.Flags.{flags_of}
use Rattle.control.specs.Turn.{host, busy, listen, kind, status_of, edge_of}
use Rattle.control.specs.Writing.{responds_at, response}
use Rattle.control.specs.declared.turn.Edge.TheVariants.{Stop}
use Rattle.control.specs.declared.turn.Edge.{Edge}
use Rattle.control.specs.declared.turn.Turn.TheVariants.{Off, Host, Free}
use Rattle.control.specs.declared.turn.Turn.{Turn}
use Rattle.controller.specs.Access.{indirect_at, bars_write, read_sound, read_of, write_sound, write_of}
use Rattle.controller.specs.Condition.{own_start, other_start, other_stop, own_stop, address_byte}
use Rattle.controller.specs.Condition.{address_lost, data_lost, illegal_edge, data_held, clock_held, idle}
use Rattle.controller.specs.Event.{event_sound, event_of}
use Rattle.controller.specs.I2ccon.{keeps, controlled, bad_count, enabled, write_flags, write_control}
use Rattle.controller.specs.Record.{timeout_enabled, sound}
use Rattle.controller.specs.Registers.{wrote, write_pointer, read_data, write_data, write_at_pointer}
use Rattle.controller.specs.Reply.{Outcome, refuses, accepts, waits_for, with_status, changes_status}
use Rattle.controller.specs.Reset.{reset_with, reset, completes_reset, write_preset}
use Rattle.controller.specs.Setters.{with_hand, with_moved, with_control, with_turn}
use Rattle.controller.specs.Transfer.{byte_out, byte_in}
use Rattle.controller.specs.declared.record.Controller.{Controller}
use Rattle.notation.proofs.Among.{among-has}
use Rattle.notation.proofs.Cases.{when-false, and_no_right, split}
use Rattle.notation.specs.Choice.{when◌then◌else◌, ◌and◌, ◌or◌, among}
use Rattle.laws.specs.Status38h.{turn_after_write_at38h, stored_at38h, event_at38h, Stays38h, Status38hStays}

-- the outcome's turn
record TurnIs (t : Turn) (o : Outcome) : Type 0 where
  turn_is : o.next.turn ≡ t

refused : (t : Turn) (c : Controller) (n : ℕ) → c.turn ≡ t → TurnIs t (refuses c n)
unfolding refuses
refused t c n e = record { turn_is = e }

accepted : (t : Turn) (c : Controller) (v : ℕ) → c.turn ≡ t → TurnIs t (accepts c v)
unfolding accepts
accepted t c v e = record { turn_is = e }

written : (t : Turn) (c : Controller) → c.turn ≡ t → TurnIs t (wrote c)
unfolding wrote
written t c e = accepted t _ 0 e

choose : (t : Turn) (b : Bool) (x y : Outcome) → (b ≡ true → TurnIs t x) → (b ≡ false → TurnIs t y) → TurnIs t (when b then x else y)
choose t b x y p q = split (TurnIs t) b x y p q

no_both : {A : Type 0} {b : Bool} → b ≡ true → b ≡ false → A
no_both e f = absurd (true≢false (sym e ∙ f))

-- a register is 0 to 3
beyond : (n : ℕ) → (n ≡ 0 → ⊥) → (n ≡ 1 → ⊥) → (n ≡ 2 → ⊥) → (n ≡ 3 → ⊥) → n ≤ 3 → ⊥
beyond n a b c d h = omega arith

-- no read changes the turn, whatever the record
read-turn : (c : Controller) (register : ℕ) → TurnIs c.turn (read_of c register)
unfolding read_of read_sound read_data
read-turn c register = search (refused, accepted, choose) depth 20

-- a sound record at 38h
module _ (c : Controller) (edge : Edge) (s : sound (with_turn c (Host 0x38 edge)) ≡ true) where
  abbrev d : Controller
  d = with_turn c (Host 0x38 edge)

  -- with ENSIO 1
  enables : (value : ℕ) → (flags_of value).ensio ≡ true →
      write_of d 3 value ≡ wrote (with_control (with_moved (with_hand d 0) 0) (stored_at38h d.control (flags_of value)))
  unfolding write_of write_sound indirect_at bars_write write_control write_flags enabled response responds_at bad_count controlled keeps
      kind status_of edge_of among when◌then◌else◌ ◌and◌ ◌or◌
  enables value e = rw (s, e, and_no_right (flags_of value).mode false refl)

  -- with ENSIO 0
  disables : (value : ℕ) → (flags_of value).ensio ≡ false → TurnIs Off (write_of d 3 value)
  unfolding write_of write_sound indirect_at bars_write write_control write_flags controlled kind status_of among when◌then◌else◌ ◌and◌ ◌or◌
  disables value e = rw (s, e) (written Off _ refl)

  control-turn : (value : ℕ) → TurnIs (turn_after_write_at38h d 3 value) (write_of d 3 value)
  unfolding indirect_at ◌and◌ when◌then◌else◌
  control-turn value = by_ensio (flags_of value).ensio refl
    where
      by_ensio : (b : Bool) → (flags_of value).ensio ≡ b → TurnIs (turn_after_write_at38h d 3 value) (write_of d 3 value)
      by_ensio true e = rw (e, enables value e) (written _ _ refl)
      by_ensio false e = rw e (disables value e)

  -- register 2, by where the pointer is and whether the software reset is complete
  pointer-turn : (value : ℕ) → TurnIs (turn_after_write_at38h d 2 value) (write_of d 2 value)
  unfolding write_of write_sound indirect_at bars_write write_at_pointer write_preset reset_with kind among when◌then◌else◌ ◌and◌ ◌or◌
  pointer-turn value = by_pointer (eqb c.pointer 5) (eqb c.pointer 7) (completes_reset d value) refl refl refl
    where
      by_pointer : (at5 at7 complete : Bool) → eqb c.pointer 5 ≡ at5 → eqb c.pointer 7 ≡ at7 → completes_reset d value ≡ complete →
          TurnIs (turn_after_write_at38h d 2 value) (write_of d 2 value)
      by_pointer true true complete e f g = no_both f (ap (λ (n : ℕ). eqb n 7) (eqb-true c.pointer 5 e))
      by_pointer true false true e f g = rw (s, e, f, g) (accepted Off _ 0 refl)
      by_pointer true false false e f g = rw (s, e, f, g) (accepted _ _ 0 refl)
      by_pointer false true complete e f g = rw (s, e, f) (refused _ d 9 refl)
      by_pointer false false complete e f g = rw (s, e, f) (written _ _ refl)

  -- the others
  other-turn : (register value : ℕ) → eqb register 2 ≡ false → eqb register 3 ≡ false → TurnIs d.turn (write_of d register value)
  unfolding write_of write_sound write_pointer write_data
  other-turn register value two three =
      choose _ (ltb 3 register) _ _ (λ e. refused _ d 1 refl)
      (λ small. choose _ (sound d) _ _
      (λ e. choose _ (indirect_at d register 7) _ _ (λ e. refused _ d 9 refl)
      (λ e. choose _ (bars_write d register) _ _ (λ e. refused _ d 3 refl)
      (λ e. choose _ (eqb register 0) _ _ (λ e. written _ _ refl)
      (λ zero. choose _ (eqb register 1) _ _ (λ e. choose _ (eqb c.hand 68) _ _ (λ e. refused _ d 7 refl) (λ e. written _ _ refl))
      (λ one. choose _ (eqb register 2) _ _ (λ e. no_both e two)
      (λ e. absurd (beyond register (eqb-false _ _ zero) (eqb-false _ _ one) (eqb-false _ _ two) (eqb-false _ _ three) (ltb-false _ _ small))))))))
      (λ e. refused _ d 10 refl))

  write-turn : (register value : ℕ) → TurnIs (turn_after_write_at38h d register value) (write_of d register value)
  unfolding indirect_at when◌then◌else◌ ◌and◌
  write-turn register value = by_register (eqb register 2) (eqb register 3) refl refl
    where
      by_register : (two three : Bool) → eqb register 2 ≡ two → eqb register 3 ≡ three →
          TurnIs (turn_after_write_at38h d register value) (write_of d register value)
      by_register true three e f =
          subst (λ n. TurnIs (turn_after_write_at38h d n value) (write_of d n value)) (sym (eqb-true register 2 e)) (pointer-turn value)
      by_register false true e f =
          subst (λ n. TurnIs (turn_after_write_at38h d n value) (write_of d n value)) (sym (eqb-true register 3 f)) (control-turn value)
      by_register false false e f = rw (e, f) (other-turn register value e f)

  -- the two events that are expected there
  stops : (argument : ℕ) → event_sound d 3 argument ≡ accepts (with_turn d Free) 0
  unfolding event_sound other_stop waits_for kind status_of among when◌then◌else◌
  stops argument = refl

  times_out : (argument : ℕ) → event_sound d 12 argument ≡ (when timeout_enabled d then accepts (with_status d 0x78 Stop) 0 else refuses d 8)
  unfolding event_sound clock_held changes_status kind status_of among when◌then◌else◌ ◌and◌
  times_out argument = by_te (timeout_enabled d) refl
    where
      by_te : (te : Bool) → timeout_enabled d ≡ te →
          event_sound d 12 argument ≡ (when timeout_enabled d then accepts (with_status d 0x78 Stop) 0 else refuses d 8)
      by_te true e = rw e
      by_te false e = rw e

  -- the others
  idle_8 : idle d ≡ refuses d 8
  unfolding idle kind
  idle_8 = when-false _ _ _ (and_no_right _ _ (and_no_right _ _ (among-has host (busy ∷ listen ∷ []))))

  refused_8 : (argument : ℕ) →
      (own_start d ≡ refuses d 8) × (other_start d ≡ refuses d 8) × (own_stop d ≡ refuses d 8) × (address_byte d argument ≡ refuses d 8) ×
      (byte_out d argument ≡ refuses d 8) × (byte_in d argument ≡ refuses d 8) × (address_lost d argument ≡ refuses d 8) ×
      (data_lost d ≡ refuses d 8) × (illegal_edge d ≡ refuses d 8) × (data_held d ≡ refuses d 8)
  unfolding own_start other_start own_stop address_byte byte_out byte_in address_lost data_lost illegal_edge data_held kind among when◌then◌else◌ ◌and◌ ◌or◌
  refused_8 argument = (refl, refl, refl, refl, refl, refl, refl, refl, refl, refl)

  unexpected : (number argument : ℕ) → eqb number 3 ≡ false → eqb number 12 ≡ false → event_sound d number argument ≡ refuses d 8
  unfolding event_sound
  unexpected number argument three twelve =
      let r = refused_8 argument in
      let not-3 : eqb number 3 ≡ true → other_stop d ≡ refuses d 8 = λ e. no_both e three in
      let not-12 : eqb number 12 ≡ true → clock_held d ≡ refuses d 8 = λ e. no_both e twelve in
      search (gives_8, r.0, r.1, r.2, r.3, r.4, r.5, r.6, r.7, r.8, r.9, idle_8, not-3, not-12) depth 40
    where
      gives_8 : (b : Bool) (x y : Outcome) → (b ≡ true → x ≡ refuses d 8) → (b ≡ false → y ≡ refuses d 8) →
          (when b then x else y) ≡ refuses d 8
      gives_8 b x y p q = split (λ o. o ≡ refuses d 8) b x y p q

  -- an event with a number of 1 to 14 and an argument that it takes
  abbrev Agrees : ℕ → ℕ → Type 0
  Agrees number argument =
      (when eqb number 14 then accepts (reset d) 0 else when sound d then event_sound d number argument else refuses d 10) ≡
      (when eqb number 3 then accepts (with_turn d Free) 0
      else when eqb number 12 and timeout_enabled d then accepts (with_status d 0x78 Stop) 0
      else when eqb number 14 then accepts (reset d) 0
      else refuses d 8)

  agrees : (number argument : ℕ) → Agrees number argument
  unfolding when◌then◌else◌ ◌and◌
  agrees number argument = by_number (eqb number 3) (eqb number 12) (eqb number 14) refl refl refl
    where
      at : (k : ℕ) → eqb number k ≡ true → Agrees k argument → Agrees number argument
      at k e f = subst (λ n. Agrees n argument) (sym (eqb-true number k e)) f

      by_number : (three twelve fourteen : Bool) → eqb number 3 ≡ three → eqb number 12 ≡ twelve → eqb number 14 ≡ fourteen →
          Agrees number argument
      by_number true twelve fourteen e f g = at 3 e (rw s (stops argument))
      by_number false true fourteen e f g = at 12 f (rw s (times_out argument))
      by_number false false true e f g = at 14 g refl
      by_number false false false e f g = rw (s, e, f, g) (unexpected number argument e f)

  event_is : (number argument : ℕ) → event_of d number argument ≡ event_at38h d number argument
  unfolding event_of
  event_is number argument = later _ _ _ _ (later _ _ _ _ (agrees number argument))
    where
      later : (b : Bool) (x y y' : Outcome) → y ≡ y' → (when b then x else y) ≡ (when b then x else y')
      later b x y y' e = ap (λ (o : Outcome). when b then x else o) e

  all : Stays38h d
  all = record {
    read = λ register. (read-turn d register).turn_is;
    write = λ register value. (write-turn register value).turn_is;
    event = event_is;
    enabling = enables;
  }

pub status_38h_stays : Status38hStays
status_38h_stays c s l =
    let e = at38h-host c.turn l in
    subst Stays38h (sym (ap (with_turn c) e)) (all c (edge_of c.turn) (ap (λ (t : Turn). sound (with_turn c t)) (sym e) ∙ s))
