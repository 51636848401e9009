-- What the entry for a status and four bits says is what the controller's own write does. Assumes nothing.
use Rattle.std.specs.Prelude.{Option, Some, None}
use mathlib.Core.Bool.{Bool, true, false, true≢false, false≢true}
use mathlib.Core.List.{List, [], ◌∷◌}
use mathlib.Core.Logic.{inl, inr}
use mathlib.Core.Path.{◌≡◌, refl, sym, ap, ◌∙◌}
use Prim.Native.Nat.{ℕ, ◌*◌, ◌/◌}
use borrow.Author.Tests.{eqb-true}
use denote.Enum.Declared.{tag_of}
use lib.Dec.{eqb}
use types.Run.{OneOf}
use Rattle.answer.specs.declared.Refusal.TheVariants.{Locked}
use Rattle.control.proofs.Turning.{at_turn, status-idle}
use Rattle.control.specs.contracts.turn.Turn.{the_type}
use Rattle.control.specs.Flags.{flags_of}
use Rattle.control.specs.Turn.{host, wire_turns, data_turns, faults, kind, waits, status_of, edge_of}
use Rattle.control.specs.Writing.{responds_at, response, end_or, after_edge}
use Rattle.control.specs.declared.flags.Control.{Control}
use Rattle.control.specs.declared.turn.Edge.TheVariants.{Stop, Start}
use Rattle.control.specs.declared.turn.Edge.{Edge}
use Rattle.control.specs.declared.turn.Turn.TheVariants.{Off, Host, Free, Busy, Listen}
use Rattle.control.specs.declared.turn.Turn.TheVariants.{Address, Send, Receive, SlaveReceive, SlaveSend, Stopping, Restarting}
use Rattle.control.specs.declared.turn.Turn.{Turn}
use Rattle.controller.proofs.SoundParts.{parts}
use Rattle.controller.specs.Access.{write_of, write_sound, bars_write, indirect_at}
use Rattle.controller.specs.I2ccon.{bad_count, controlled, enabled, write_control, write_flags}
use Rattle.controller.specs.Record.{given_statuses, host_sound, sound}
use Rattle.controller.specs.Reply.{refuses}
use Rattle.controller.specs.Setters.{with_turn}
use Rattle.controller.specs.declared.record.Controller.{Controller}
use Rattle.notation.proofs.Among.{has, passes, one_of, without, apart}
use Rattle.notation.proofs.Cases.{when-true, when-false, and_no_left, and_no_right, split}
use Rattle.notation.specs.Choice.{when◌then◌else◌, ◌and◌, ◌or◌, among}
use Rattle.responses.specs.Engine.{beside_table, by_entry, EntriesRule}
use Rattle.responses.specs.Table.{entry_at, as_entry}
use Rattle.responses.specs.declared.entry.Entry.TheVariants.{Beside, Refused}
use Rattle.responses.specs.declared.entry.Entry.{Entry}

-- I2CCON of a sound record: refusal 3, or the rule for the flags
pub writes-flags : (c : Controller) (value : ℕ) → sound c ≡ true →
    write_of c 3 value ≡ (when waits c.turn wire_turns then refuses c 3 else write_flags c (flags_of value))
unfolding write_of write_sound bars_write indirect_at write_control ◌and◌ ◌or◌ when◌then◌else◌
writes-flags c value e = rw e

-- BC is looked at where data is moved
unmoved : (c : Controller) (k : Control) (t : Turn) → waits t data_turns ≡ false → enabled c k (Some t) ≡ controlled c k t
unfolding enabled bad_count
unmoved c k t e = when-false _ _ _ (and_no_right k.mode _ (and_no_left _ _ e))

-- the rules answer x where the bus condition is `Stop` and y where it is the record's; the entry for x does what the rules make of y
record Meets (c : Controller) (k : Control) (x y : Option Turn) : Type 0 where
  same : by_entry c k (as_entry x) ≡ enabled c k y

module _ {c : Controller} {k : Control} where
  choose : (b : Bool) {x y x' y' : Option Turn} → (b ≡ true → Meets c k x x') → (b ≡ false → Meets c k y y') →
      Meets c k (when b then x else y) (when b then x' else y')
  unfolding when◌then◌else◌
  choose true f g = f refl
  choose false f g = g refl

  unlisted : Meets c k None None
  unfolding by_entry as_entry enabled
  unlisted = record { same = refl }

  leads : (t : Turn) → has (host ∷ []) (tag_of the_type t) ≡ false → Meets c k (Some t) (Some t)
  unfolding by_entry as_entry
  leads t e = record { same = ap (by_entry c k) (when-false _ _ _ (at_turn _ t refl false (host ∷ []) e)) }

edge_unmoved : (e : Edge) → waits (after_edge e) data_turns ≡ false
unfolding after_edge kind among when◌then◌else◌
edge_unmoved Stop = refl
edge_unmoved Start = refl

-- the record waits in Host, with a status and a bus condition
module _ (c : Controller) (k : Control) (s : ℕ) (e : Edge) where
  abbrev waiting : Controller
  waiting = with_turn c (Host s e)

  stays : among s (0x38 ∷ []) ≡ true → Meets waiting k (Some (Host 0x38 Stop)) (Some (Host 0x38 e))
  unfolding by_entry as_entry kind among when◌then◌else◌
  stays h = record {
    same = ap (λ (n : ℕ). controlled waiting k (Host n e)) (one_of (0x38 ∷ []) s h) ∙ sym (unmoved waiting k (Host 0x38 e) refl);
  }

  ended : {x y : Option Turn} → among s (0xA0 ∷ 0xF8 ∷ []) ≡ false → among s (0xA0 ∷ []) ≡ true → Meets waiting k x y
  ended n h = absurd (true≢false (sym h ∙ without s (0xA0 ∷ []) (0xA0 ∷ 0xF8 ∷ []) tt n))

  alike : among s (0xA0 ∷ 0xF8 ∷ []) ≡ false → Meets waiting k (responds_at s Stop k) (responds_at s e k)
  unfolding responds_at end_or
  alike n = search (choose, unlisted, leads, stays, ended) depth 16

  -- A0h: among the statuses that some event gives there is no F8h
  outside : among s given_statuses ≡ true → OneOf (0xA0 ∷ 0xF8 ∷ []) s → by_entry waiting k Beside ≡ enabled waiting k (responds_at s e k)
  unfolding by_entry beside_table responds_at kind edge_of among when◌then◌else◌
  outside g (inl a) = sym (unmoved waiting k (after_edge e) (edge_unmoved e)) ∙ ap (λ (n : ℕ). enabled waiting k (responds_at n e k)) (sym a)
  outside g (inr a) = absurd (false≢true (rw a at g))

  -- the rule for the flags, where the status is no fault
  flagged : among s faults ≡ false → k.ensio ≡ true → write_flags waiting k ≡ enabled waiting k (responds_at s e k)
  unfolding write_flags response status_of kind edge_of among when◌then◌else◌
  flagged f n = when-false _ _ _ f ∙ when-true _ _ _ n ∙ refl

  locked : among s faults ≡ true → by_entry waiting k (Refused Locked) ≡ write_flags waiting k
  unfolding by_entry write_flags status_of
  locked f = sym (when-true _ _ _ f)

  at-host : among s given_statuses ≡ true → k.ensio ≡ true → by_entry waiting k (entry_at s k) ≡ write_flags waiting k
  unfolding entry_at
  at-host g n =
      let P : Entry → Type 0 = λ x. by_entry waiting k x ≡ write_flags waiting k in
      let past : List ℕ = 0xA0 ∷ 0xF8 ∷ [] in
      split P (among s past) Beside _ (λ a. outside g (one_of past s a) ∙ sym (flagged (apart s past faults tt a) n))
      (λ a. split P (among s faults) (Refused Locked) _ locked
      (λ f. ap (by_entry waiting k) (when-true _ _ _ g) ∙ (alike a).same ∙ sym (flagged f n)))

-- the same in any turn: in a wire turn refusal 3, from Off to Free, in Free, Busy and Listen the turn kept
ruled : (c : Controller) (k : Control) (t : Turn) → sound (with_turn c t) ≡ true → k.ensio ≡ true →
    by_entry (with_turn c t) k (entry_at (status_of t) k) ≡ (when waits t wire_turns then refuses (with_turn c t) 3 else write_flags (with_turn c t) k)
unfolding by_entry entry_at beside_table write_flags response host_sound status_of kind among when◌then◌else◌
ruled c k Off h n = sym (when-true k.ensio _ _ n ∙ unmoved (with_turn c Off) k Free refl)
ruled c k (Host s e) h n = at-host c k s e (parts (with_turn c (Host s e)) h).host n
ruled c k Free h n = sym (when-true k.ensio _ _ n ∙ unmoved (with_turn c Free) k Free refl)
ruled c k Busy h n = sym (when-true k.ensio _ _ n ∙ unmoved (with_turn c Busy) k Busy refl)
ruled c k Listen h n = sym (when-true k.ensio _ _ n ∙ unmoved (with_turn c Listen) k Listen refl)
ruled c k Address h n = refl
ruled c k Send h n = refl
ruled c k Receive h n = refl
ruled c k (SlaveReceive w) h n = refl
ruled c k SlaveSend h n = refl
ruled c k Stopping h n = refl
ruled c k Restarting h n = refl

pub entries_rule : EntriesRule
entries_rule c value h n = ruled c (flags_of value) c.turn h n ∙ sym (writes-flags c value h)

-- the status of a sound record is a multiple of 8: the 28 that some event gives are, and F8h is
pub aligned : (c : Controller) → sound c ≡ true → status_of c.turn / 8 * 8 ≡ status_of c.turn
unfolding host_sound when◌then◌else◌
aligned c h = go (waits c.turn (host ∷ [])) refl (parts c h).host
  where
    s : ℕ
    s = status_of c.turn

    go : (b : Bool) → waits c.turn (host ∷ []) ≡ b → (when b then among s given_statuses else true) ≡ true → s / 8 * 8 ≡ s
    go true w g = eqb-true _ _ (passes (λ k. eqb (k / 8 * 8) k) true given_statuses s (one_of given_statuses s g) tt)
    go false w g = rw (status-idle c.turn w)
