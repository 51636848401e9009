-- From which turns of a job an event leads to a status, for the statuses that the driver has work for, and with what record. Assumes nothing.
use mathlib.Core.Bool.{Bool, true, false, cond, true≢false}
use mathlib.Core.List.{List, [], ◌∷◌}
use mathlib.Core.Path.{◌≡◌, refl, sym, ap, subst, ◌∙◌}
use Prim.Native.Nat.{ℕ}
use lib.Dec.{T, eqb}
use lib.ListN.{length, set, length-set}
use Rattle.address.specs.declared.number.Direction.TheVariants.{Write, Read}
use Rattle.address.specs.declared.number.Direction.{Direction}
use Rattle.control.proofs.Turning.{status-idle}
use Rattle.control.specs.Turn.{host, address, send, receive, status_of, at38h}
use Rattle.controller.specs.Condition.{own_start, other_start, other_stop, own_stop, addressed, address_byte}
use Rattle.controller.specs.Condition.{outbid, address_lost, data_lost, illegal_edge, data_held, clock_held, idle}
use Rattle.controller.specs.Event.{event_sound, event_of}
use Rattle.controller.specs.Reply.{Outcome, refuses, accepts, waits_for, interrupts_at, gives, changes_status}
use Rattle.controller.specs.Reset.{reset_with}
use Rattle.controller.specs.Transfer.{address_status, data_out, byte_out, acknowledges_last, received, data_in, byte_in}
use Rattle.controller.specs.declared.record.Controller.{Controller}
use Rattle.notation.proofs.Among.{has, every, same, is_true, among-has, apart, within}
use Rattle.notation.proofs.Cases.{split}
use Rattle.notation.specs.Choice.{when◌then◌else◌, ◌and◌, among}
use Rattle.runs.proofs.Invariant.{In, job_turns, early_turns, Good}
use Rattle.runs.proofs.Receiving.{nacks_last}
use Rattle.runs.proofs.Step.{here, not_38h, no_match}
use Rattle.runs.specs.Accesses.{job_statuses}
use Rattle.service.specs.declared.job.Job.{Job}
use Rattle.service.specs.declared.progress.Progress.{Progress}

-- the turns of a job from which an event can lead to a status: to 08h, 18h and 40h only from those in which nothing was sent
abbrev pub turns_before : ℕ → List ℕ
turns_before s =
    cond (has (0x08 ∷ 0x18 ∷ 0x40 ∷ []) s) early_turns (cond (has (0x28 ∷ 0x30 ∷ []) s) (send ∷ []) (cond (eqb s 0x58) (receive ∷ []) job_turns))

module _ {job : Job} {payload carried : List ℕ} {sent : ℕ} {p : Progress} (g : Good job payload carried sent p) (number : ℕ) where
  -- what holds of the record with which a status comes: the driver's work at it begins with this
  pub record Given (d : Controller) : Type 0 where
    pub listed : among (status_of d.turn) job_statuses ≡ true
    pub hand : d.hand ≡ 0
    pub registers : d.registers ≡ p.controller.registers
    pub places : length d.buffer ≡ 68

  -- The status that an outcome shows comes from such a turn; 20h and 48h come by event 6.
  pub record Comes (o : Outcome) : Type 0 where
    pub turn : In p (turns_before (status_of o.next.turn))
    pub six : among (status_of o.next.turn) (0x20 ∷ 0x48 ∷ []) ≡ true → eqb number 6 ≡ true
    pub given : eqb (status_of o.next.turn) 0xF8 ≡ false → Given o.next
    -- no event moves the pointer from 00h
    pub pointer : p.controller.pointer ≡ 0 → o.next.pointer ≡ 0

  comes : (o : Outcome) (ks : List ℕ) → In p ks → T (every (has (turns_before (status_of o.next.turn))) ks) →
      has (0x20 ∷ 0x48 ∷ []) (status_of o.next.turn) ≡ false → (eqb (status_of o.next.turn) 0xF8 ≡ false → Given o.next) →
      (p.controller.pointer ≡ 0 → o.next.pointer ≡ 0) → Comes o
  comes o ks t w n f z = record { turn = within _ ks _ w t; six = λ e. absurd (true≢false (sym e ∙ among-has _ _ ∙ n)); given = f; pointer = z }

  -- no status is given; the turn is none of a job's; a choice; a test of two
  quiet : (o : Outcome) → status_of o.next.turn ≡ 0xF8 → (p.controller.pointer ≡ 0 → o.next.pointer ≡ 0) → Comes o
  quiet o e z =
      comes o job_turns g.turn (subst (λ s. T (every (has (turns_before s)) job_turns)) (sym e) tt) (ap (has (0x20 ∷ 0x48 ∷ [])) e)
      (λ f. absurd (true≢false (sym (ap (λ (s : ℕ). eqb s 0xF8) e) ∙ f))) z

  -- one is given
  with_status_lem : (d : Controller) → T (has job_statuses (status_of d.turn)) → d.hand ≡ 0 → d.registers ≡ p.controller.registers →
      length d.buffer ≡ 68 → eqb (status_of d.turn) 0xF8 ≡ false → Given d
  with_status_lem d t h r l e = record { listed = among-has _ job_statuses ∙ is_true _ t; hand = h; registers = r; places = l }

  still_68 : (i x : ℕ) → length (set p.controller.buffer i x) ≡ 68
  still_68 i x = length-set p.controller.buffer i x ∙ g.whole.places

  not-here : (o : Outcome) (ks : List ℕ) → In p ks → T (every (λ k. same (has ks k) false) job_turns) → Comes o
  not-here o ks t n = absurd (here g ks n t)

  chosen : (b : Bool) (x y : Outcome) → (b ≡ true → Comes x) → (b ≡ false → Comes y) → Comes (when b then x else y)
  chosen b x y f h = split Comes b x y f h

  both : (a b : Bool) (x y : Outcome) → Comes (when a then (when b then x else y) else y) → Comes (when a and b then x else y)
  unfolding ◌and◌ when◌then◌else◌
  both true b x y h = h
  both false b x y h = h

  -- in Receive no last byte is acknowledged, and no turn of a job is Host
  no_ack : (o : Outcome) → In p (receive ∷ []) → acknowledges_last p.controller ≡ true → Comes o
  no_ack o t e = absurd (true≢false (sym e ∙ nacks_last g t))

  no_38h : (o : Outcome) → at38h p.controller.turn ≡ true → Comes o
  no_38h o e = absurd (not_38h g e)

  -- a status that event 6 gives
  by_six : (s v : ℕ) → In p (turns_before s) → T (has job_statuses s) → eqb number 6 ≡ true → Comes (gives p.controller s v)
  unfolding interrupts_at accepts status_of
  by_six s v t l n = record { turn = t; six = λ _. n; given = with_status_lem _ l refl refl g.whole.places; pointer = λ e. e }

  address_out : (d : Direction) (nack v : ℕ) → In p (address ∷ []) → eqb number 6 ≡ true → Comes (gives p.controller (address_status d nack) v)
  unfolding address_status
  address_out Write k v t n =
      split (λ s. Comes (gives p.controller s v)) _ _ _ (λ _. by_six 0x20 v g.turn tt n)
      (λ _. by_six 0x18 v (within _ (address ∷ []) early_turns tt t) tt n)
  address_out Read k v t n =
      split (λ s. Comes (gives p.controller s v)) _ _ _ (λ _. by_six 0x48 v g.turn tt n)
      (λ _. by_six 0x40 v (within _ (address ∷ []) early_turns tt t) tt n)

  pub event-comes : (argument : ℕ) → Comes (event_of p.controller number argument)
  unfolding event_of event_sound own_start other_start other_stop own_stop address_byte addressed address_lost outbid data_lost illegal_edge data_held clock_held
      idle byte_out data_out byte_in data_in received refuses accepts waits_for interrupts_at changes_status reset_with status_of
  event-comes argument =
      let now = status-idle p.controller.turn (apart _ job_turns (host ∷ []) tt g.turn) in
      let all = g.whole.places in
      rw (no_match g argument)
      (search (both, chosen, quiet, address_out, no_ack, no_38h, comes, with_status_lem, still_68, all, not-here, now, g.turn, tt) depth 40 fits 30000)
