-- The reason after any event, write and read, and that whenever SI is 1 it is that of the status. Assumes nothing.
use Rattle.std.specs.Prelude.{Option, Some, None}
use mathlib.Core.Bool.{Bool, true, false, true≢false}
use mathlib.Core.List.{List, [], ◌∷◌}
use mathlib.Core.Path.{◌≡◌, refl, sym, ap, subst, ◌∙◌}
use Prim.Native.Nat.{ℕ}
use borrow.Author.Tests.{eqb-true}
use lib.Dec.{T, eqb, ltb}
use lib.ListN.{replicate}
use Rattle.address.specs.declared.matching.Match.TheVariants.{Own, General, Nothing}
use Rattle.address.specs.declared.matching.Match.{Match}
use Rattle.address.specs.declared.number.Direction.TheVariants.{Write, Read}
use Rattle.control.specs.Reason.{reason_of}
use Rattle.control.proofs.Turning.{at38h-host}
use Rattle.control.specs.Turn.{host, slave_receive, kind, status_of, edge_of, at38h}
use Rattle.control.specs.Writing.{responds_at, response}
use Rattle.control.specs.declared.flags.Control.{Control}
use Rattle.control.specs.declared.reason.Reason.TheVariants.{NoneYet, Reset}
use Rattle.control.specs.declared.reason.Reason.{Reason}
use Rattle.control.specs.declared.turn.Called.TheVariants as called
use Rattle.control.specs.declared.turn.Called.{Called}
use Rattle.control.specs.declared.turn.Edge.{Edge}
use Rattle.control.specs.declared.turn.Turn.TheVariants.{Off, Host}
use Rattle.control.specs.declared.turn.Turn.{Turn}
use Rattle.controller.specs.Access.{indirect_at, read_sound, read_of, write_sound, write_of}
use Rattle.controller.specs.Condition.{own_start, other_start, other_stop, own_stop, addressed, address_byte}
use Rattle.controller.specs.Condition.{outbid, address_lost, data_lost, illegal_edge, data_held, clock_held, idle}
use Rattle.controller.specs.Event.{event_sound, event_of}
use Rattle.controller.specs.I2ccon.{controlled, enabled, write_flags, write_control}
use Rattle.controller.specs.Record.{interrupts}
use Rattle.controller.specs.Registers.{wrote, write_pointer, read_data, write_data, write_at_pointer}
use Rattle.controller.specs.Reply.{Outcome, refuses, accepts, waits_for, interrupts_at, changes_status}
use Rattle.controller.specs.Reset.{reset_with, reset, write_preset}
use Rattle.controller.specs.Setters.{with_turn}
use Rattle.controller.specs.Transfer.{data_out, byte_out, received, data_in, slave_in, byte_in}
use Rattle.controller.specs.declared.record.Controller.{Controller}
use Rattle.notation.proofs.Among.{has, every, same, apart, key_is}
use Rattle.notation.proofs.Cases.{when-true, when-false, and-true, and_no_left, and_no_right, split}
use Rattle.notation.specs.Choice.{when◌then◌else◌, ◌and◌, among}
use Rattle.laws.proofs.Kept.{Quiet, free-quiet, busy-quiet, listen-quiet, off-quiet}
use Rattle.laws.proofs.KeptAccesses.{WriteLeads, response-clears}
use Rattle.laws.specs.Reasons.{ReasonsFollow, ReasonOfStatus, ReasonAgrees}
use Rattle.laws.specs.SoftwareReset.{resets_by_software}

-- SI is 0, or turn and reason are as they were
silent : (t : Turn) (r : Reason) → among (kind t) (host ∷ []) ≡ false → among (kind t) (host ∷ []) ≡ true → r ≡ reason_of (status_of t)
silent t r q i = absurd (true≢false (sym i ∙ q))

as_before : (c d : Controller) → d.turn ≡ c.turn → d.reason ≡ c.reason → ReasonOfStatus c → ReasonOfStatus d
as_before c d t r h i =
    r ∙ h (ap (λ (u : Turn). among (kind u) (host ∷ [])) (sym t) ∙ i) ∙ ap (λ (u : Turn). reason_of (status_of u)) (sym t)

reset-agrees : (buffer : List ℕ) (reason : Reason) → ReasonOfStatus (reset_with buffer reason)
unfolding reset_with
reset-agrees buffer reason = silent Off reason off-quiet.0

-- What an access or event makes of the reason: `resets` says whether it resets where it is accepted, `event` whether it is an event, and can give a status.
record Follows (c : Controller) (resets event : Bool) (o : Outcome) : Type 0 where
  follows :
      o.next.reason ≡
      (when ltb 0 o.refused then c.reason
      else when resets then Reset
      else when event and interrupts o.next then reason_of (status_of o.next.turn)
      else c.reason)
  agrees : ReasonOfStatus c → ReasonOfStatus o.next

-- the ends of the rules
refused : (c : Controller) (resets event : Bool) (n : ℕ) → ltb 0 n ≡ true → Follows c resets event (refuses c n)
unfolding refuses
refused c resets event n e = record { follows = sym (when-true _ _ _ e); agrees = λ h. h }

reset-done : (c : Controller) (resets event : Bool) → resets ≡ true → Follows c resets event (accepts (reset c) 0)
unfolding accepts reset_with when◌then◌else◌
reset-done c resets event e = record { follows = sym (when-true _ _ _ e); agrees = λ _. reset-agrees c.buffer Reset }

choose : (c : Controller) (resets event b : Bool) (x y : Outcome) → (b ≡ true → Follows c resets event x) →
    (b ≡ false → Follows c resets event y) → Follows c resets event (when b then x else y)
choose c resets event b x y p q = split (Follows c resets event) b x y p q

-- Events. The reason is kept, and SI is 0 after it.
keeping : (c d : Controller) (v : ℕ) → d.reason ≡ c.reason → among (kind d.turn) (host ∷ []) ≡ false → Follows c false true (accepts d v)
unfolding accepts when◌then◌else◌ ◌and◌
keeping c d v e t = record { follows = e ∙ sym (when-false _ _ _ t); agrees = λ _. silent d.turn d.reason t }

waiting : (c d : Controller) (t : Turn) (v : ℕ) → d.reason ≡ c.reason → Quiet t → Follows c false true (waits_for d t v)
unfolding waits_for
waiting c d t v e q = keeping c (with_turn d t) v e q.0

interrupted : (c d : Controller) (s : ℕ) (e : Edge) (v : ℕ) → Follows c false true (interrupts_at d s e v)
unfolding interrupts_at accepts kind status_of among when◌then◌else◌ ◌and◌
interrupted c d s e v = record { follows = refl; agrees = λ _ _. refl }

status-changed : (c d : Controller) (s : ℕ) → Follows c false true (changes_status d s)
unfolding changes_status accepts kind status_of among when◌then◌else◌ ◌and◌
status-changed c d s = record { follows = refl; agrees = λ _ _. refl }

-- in a turn that is listed, and Host is not listed with it
not-host : (x : ℕ) (ks : List ℕ) → among x ks ≡ true → T (every (λ k. same (has (host ∷ []) k) false) ks) → among x (host ∷ []) ≡ false
not-host x ks e t = apart x ks (host ∷ []) t e

ruleset ends =
    (refused, keeping, waiting, interrupted, status-changed, choose, not-host, free-quiet, busy-quiet, listen-quiet, refl, tt)

-- a match, and the address called, by their cases
found : (c : Controller) (m : Match) → Follows c false true (addressed c m)
unfolding addressed
found c General = search ends
found c (Own Write) = search ends
found c (Own Read) = search ends
found c Nothing = search ends

overtaken : (c : Controller) (m : Match) → Follows c false true (outbid c m)
unfolding outbid
overtaken c General = search ends
overtaken c (Own Write) = search ends
overtaken c (Own Read) = search ends
overtaken c Nothing = search ends

slave_in_lem : (c : Controller) (byte : ℕ) (w : Called) → among (kind c.turn) (slave_receive ∷ []) ≡ true → Follows c false true (slave_in c byte w)
unfolding slave_in data_in received
slave_in_lem c byte called.Own t = search ends
slave_in_lem c byte called.General t = search ends

-- every event but the reset pin, each rule with all that it calls
event-sound : (c : Controller) (number argument : ℕ) → Follows c false true (event_sound c number argument)
unfolding event_sound own_start other_start other_stop own_stop address_byte address_lost data_lost illegal_edge data_held clock_held idle byte_out data_out byte_in data_in
    received
event-sound c number argument = search (found, overtaken, slave_in_lem, ends) depth 40

no_pin : (c : Controller) (pin : Bool) (o : Outcome) → pin ≡ false → Follows c false true o → Follows c pin true o
no_pin c pin o e f = subst (λ (b : Bool). Follows c b true o) (sym e) f

event-follows : (c : Controller) (number argument : ℕ) → Follows c (eqb number 14) true (event_of c number argument)
unfolding event_of
event-follows c number argument = search (refused, reset-done, no_pin, event-sound, choose) depth 8

-- Accesses. The reason is kept.
access-keeps : (c d : Controller) (resets : Bool) (v : ℕ) → (ReasonOfStatus c → ReasonOfStatus d) → d.reason ≡ c.reason → resets ≡ false →
    Follows c resets false (accepts d v)
unfolding accepts when◌then◌else◌ ◌and◌
access-keeps c d resets v a e f = record { follows = e ∙ sym (when-false _ _ _ f); agrees = a }

accessed : (c d : Controller) (resets : Bool) (v : ℕ) → d.turn ≡ c.turn → d.reason ≡ c.reason → resets ≡ false →
    Follows c resets false (accepts d v)
accessed c d resets v t e f = access-keeps c d resets v (as_before c d t e) e f

written : (c d : Controller) (resets : Bool) → d.turn ≡ c.turn → d.reason ≡ c.reason → resets ≡ false → Follows c resets false (wrote d)
unfolding wrote
written c d resets t e f = accessed c _ resets 0 t e f

-- another register than 2
not_two : (register k : ℕ) → eqb register k ≡ true → eqb k 2 ≡ false → eqb register 2 ≡ false
not_two register k e f = key_is k register (eqb-true register k e) false 2 f

-- a write of I2CCON that leads elsewhere than to Host, or leaves the turn
leads : (c : Controller) (k : Control) (t : Turn) (resets : Bool) → among (kind t) (host ∷ []) ≡ false → resets ≡ false →
    Follows c resets false (controlled c k t)
unfolding controlled wrote
leads c k t resets q f = access-keeps c _ resets 0 (λ _. silent t c.reason q) refl f

stays : (c : Controller) (k : Control) (t : Turn) (resets : Bool) → t ≡ c.turn → resets ≡ false → Follows c resets false (controlled c k t)
unfolding controlled
stays c k t resets e f = written c _ resets e refl f

ruleset accesses =
    (refused, reset-done, choose, accessed, written, leads, not_two, and-true, and_no_left, and_no_right, refl)

-- at 38h it leaves the turn
next_at_38h : (e : Edge) (k : Control) (t : Turn) → Some t ≡ response (Host 0x38 e) k → t ≡ Host 0x38 e
unfolding response responds_at kind status_of edge_of among when◌then◌else◌
next_at_38h e k t p = ap leads_to p
  where
    leads_to : Option Turn → Turn
    leads_to (Some u) = u
    leads_to None = t

enabling : (c : Controller) (k : Control) (r : Option Turn) (resets : Bool) → response c.turn k ≡ r → resets ≡ false →
    Follows c resets false (enabled c k r)
unfolding enabled
enabling c k None resets e f = search accesses
enabling c k (Some t) resets e f = choose c resets false _ _ _ (λ _. refused c resets false 6 refl) (λ _. at_38h (at38h c.turn) refl)
  where
    at_38h : (b : Bool) → at38h c.turn ≡ b → Follows c resets false (controlled c k t)
    at_38h true a =
        let lost = at38h-host c.turn a in
        stays c k t resets (next_at_38h _ k t (sym e ∙ ap (λ (u : Turn). response u k) lost) ∙ sym lost) f
    at_38h false a = leads c k t resets ((subst (WriteLeads _) e (response-clears c.turn k)).clears a) f

write-follows : (c : Controller) (register value : ℕ) → Follows c (resets_by_software c register value) false (write_of c register value)
unfolding write_of write_sound indirect_at write_pointer write_data write_at_pointer write_preset write_control write_flags
write-follows c register value = search (enabling, off-quiet.0, accesses) depth 20

read-follows : (c : Controller) (register : ℕ) → Follows c false false (read_of c register)
unfolding read_of read_sound read_data
read-follows c register = search accesses depth 12

either_way : {A : Type 0} (b : Bool) (x : A) → (when b then x else x) ≡ x
unfolding when◌then◌else◌
either_way true x = refl
either_way false x = refl

-- REQUEST 8: the reason is set with each new status and by a reset, and otherwise kept.
pub reasons_follow : ReasonsFollow
unfolding when◌then◌else◌ ◌and◌
reasons_follow c = record {
  event = λ number argument. (event-follows c number argument).follows;
  write = λ register value. (write-follows c register value).follows;
  read = λ register. (read-follows c register).follows ∙ either_way (ltb 0 (read_of c register).refused) c.reason;
}

pub reason-agrees : ReasonAgrees
reason-agrees = record {
  fresh-agrees = reset-agrees (replicate 68 0) NoneYet;
  event = λ c number argument. (event-follows c number argument).agrees;
  write = λ c register value. (write-follows c register value).agrees;
  read = λ c register. (read-follows c register).agrees;
}
