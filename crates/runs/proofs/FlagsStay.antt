-- What an event makes of turn and flags while a job lasts. Assumes nothing.
use mathlib.Core.Bool.{Bool, true, false, true≢false}
use mathlib.Core.List.{List, [], ◌∷◌}
use mathlib.Core.Path.{◌≡◌, refl, sym, ap, subst, ◌∙◌}
use Prim.Native.Nat.{ℕ, suc}
use native.Mathlib.Omega.{arith}
use lib.Dec.{T, eqb}
use Rattle.address.specs.declared.number.Direction.TheVariants.{Write, Read}
use Rattle.address.specs.declared.number.Direction.{Direction}
use Rattle.control.specs.Turn.{stopping, kind, status_of, at38h}
use Rattle.control.specs.declared.turn.Edge.{Edge}
use Rattle.control.specs.declared.turn.Turn.TheVariants as turn
use Rattle.control.specs.declared.turn.Turn.{Turn}
use Rattle.controller.specs.Condition.{own_start, other_start, other_stop, without_stop, own_stop, addressed, address_byte}
use Rattle.controller.specs.Condition.{outbid, address_lost, data_lost, illegal_edge, data_held, clock_held, idle}
use Rattle.controller.specs.Event.{bad_argument, event_sound, event_of}
use Rattle.controller.specs.Record.{sound}
use Rattle.controller.specs.Reply.{Outcome, refuses, accepts, waits_for, interrupts_at, changes_status}
use Rattle.controller.specs.Transfer.{address_status, data_out, byte_out, received, data_in, byte_in}
use Rattle.controller.specs.declared.record.Controller.{Controller}
use Rattle.notation.proofs.Among.{has, every, same, within, apart}
use Rattle.notation.proofs.Cases.{split}
use Rattle.notation.specs.Choice.{when◌then◌else◌, ◌or◌, among}
use Rattle.runs.proofs.Invariant.{In, waiting_turns, job_turns, Good}
use Rattle.runs.proofs.Step.{here, not_38h, no_match}
use Rattle.runs.proofs.Waiting.{free-waits, busy-waits, listen-waits}
use Rattle.service.specs.declared.job.Job.{Job}
use Rattle.service.specs.declared.progress.Progress.{Progress}

pub never : (k : ℕ) → ◌≡◌ {A = ℕ} (suc k) 0 → ⊥
never k z = omega (arith, z)

-- Own STOP comes in Stopping, and leaves the turn Free and STO 0.
pub own_stop_lem : (c : Controller) (number argument : ℕ) → number ≡ 4 →
    let o = event_of c number argument in
    o.refused ≡ 0 → (among (kind c.turn) (stopping ∷ []) ≡ true) × (o.next.turn ≡ turn.Free) × (o.next.control ≡ without_stop c.control)
unfolding event_of event_sound own_stop refuses waits_for accepts when◌then◌else◌ ◌or◌
own_stop_lem c number argument e =
    let stopping-now = among (kind c.turn) (stopping ∷ []) in
    let P : Outcome → Type 0 = λ o.
    o.refused ≡ 0 → (stopping-now ≡ true) × (o.next.turn ≡ turn.Free) × (o.next.control ≡ without_stop c.control) in
    subst (λ (n : ℕ). P (event_of c n argument)) (sym e)
    (split P (bad_argument 4 argument) _ _ (λ _ z. absurd (never 1 z))
    (λ _. split P (sound c) _ _ (λ _. split P stopping-now _ _ (λ t _. (t, refl, refl)) (λ _ z. absurd (never 7 z))) (λ _ z. absurd (never 9 z))))

-- Events but own STOP and the reset.
module _ {job : Job} {payload carried : List ℕ} {sent : ℕ} {p : Progress} (g : Good job payload carried sent p) (number : ℕ)
    (not-14 : eqb number 14 ≡ false) (not-4 : eqb number 4 ≡ false) where
  -- the turn was not Stopping and is not, and it waits for the bus exactly if it did
  pub record Alike (t : Turn) : Type 0 where
    pub waiting : among (kind t) waiting_turns ≡ among (kind p.controller.turn) waiting_turns
    pub before : among (kind p.controller.turn) (stopping ∷ []) ≡ false
    pub after : among (kind t) (stopping ∷ []) ≡ false

  -- the flags stay; the turn is such a one where the event is accepted and gives no status
  pub record Stays (o : Outcome) : Type 0 where
    pub flags : o.next.control ≡ p.controller.control
    pub turn : o.refused ≡ 0 → eqb (status_of o.next.turn) 0xF8 ≡ true → Alike o.next.turn

  -- the ends of the rules: a refusal, a status, another turn of those that wait for the bus, the same turn
  refused : (n : ℕ) → eqb n 0 ≡ false → Stays (refuses p.controller n)
  unfolding refuses
  refused n e = record { flags = refl; turn = λ z. absurd (true≢false (sym (ap (λ (k : ℕ). eqb k 0) z) ∙ e)) }

  interrupted : (d : Controller) (s : ℕ) (e : Edge) (v : ℕ) → d.control ≡ p.controller.control → eqb s 0xF8 ≡ false → Stays (interrupts_at d s e v)
  unfolding interrupts_at accepts status_of
  interrupted d s e v c n = record { flags = c; turn = λ _ f. absurd (true≢false (sym f ∙ n)) }

  changed : (s : ℕ) → eqb s 0xF8 ≡ false → Stays (changes_status p.controller s)
  unfolding changes_status accepts status_of
  changed s n = record { flags = refl; turn = λ _ f. absurd (true≢false (sym f ∙ n)) }

  waits : (ks : List ℕ) (t : Turn) (v : ℕ) → In p ks → T (every (has waiting_turns) ks) → among (kind t) waiting_turns ≡ true →
      Stays (waits_for p.controller t v)
  unfolding waits_for accepts
  waits ks t v i w e =
      let now = within _ ks waiting_turns w i in
      let off : (k : ℕ) → among k waiting_turns ≡ true → among k (stopping ∷ []) ≡ false = λ k. apart k waiting_turns (stopping ∷ []) tt in
      record { flags = refl; turn = λ _ _. record { waiting = e ∙ sym now; before = off _ now; after = off _ e } }

  stays : (d : Controller) (ks : List ℕ) (v : ℕ) → In p ks → T (every (λ k. same (has (stopping ∷ []) k) false) ks) → d.turn ≡ p.controller.turn →
      d.control ≡ p.controller.control → Stays (accepts d v)
  unfolding accepts
  stays d ks v i w e c =
      let off = apart _ ks (stopping ∷ []) w i in
      let also : (ls : List ℕ) → among (kind d.turn) ls ≡ among (kind p.controller.turn) ls = λ ls. ap (λ (t : Turn). among (kind t) ls) e in
      record { flags = c; turn = λ _ _. record { waiting = also waiting_turns; before = off; after = also (stopping ∷ []) ∙ off } }

  -- what does not come about: another number, a turn that is none of a job's
  not_stop : (o : Outcome) → eqb number 4 ≡ true → Stays o
  not_stop o e = absurd (true≢false (sym e ∙ not-4))

  not-reset : (o : Outcome) → eqb number 14 ≡ true → Stays o
  not-reset o e = absurd (true≢false (sym e ∙ not-14))

  not-here : (o : Outcome) (ks : List ℕ) → In p ks → T (every (λ k. same (has ks k) false) job_turns) → Stays o
  not-here o ks t n = absurd (here g ks n t)

  no_38h : (o : Outcome) → at38h p.controller.turn ≡ true → Stays o
  no_38h o e = absurd (not_38h g e)

  -- a choice, and the status that the address byte gets
  chosen : (b : Bool) (x y : Outcome) → (b ≡ true → Stays x) → (b ≡ false → Stays y) → Stays (when b then x else y)
  chosen b x y f h = split Stays b x y f h

  answered : (d : Direction) (nack : ℕ) → eqb (address_status d nack) 0xF8 ≡ false
  unfolding address_status
  answered Write nack = split (λ (s : ℕ). eqb s 0xF8 ≡ false) _ _ _ (λ _. refl) (λ _. refl)
  answered Read nack = split (λ (s : ℕ). eqb s 0xF8 ≡ false) _ _ _ (λ _. refl) (λ _. refl)

  pub event-stays : (argument : ℕ) → Stays (event_of p.controller number argument)
  unfolding event_of event_sound own_start other_start other_stop address_byte addressed address_lost outbid data_lost illegal_edge data_held clock_held
      idle byte_out data_out byte_in data_in received
  event-stays argument =
      rw (no_match g argument)
      (search (chosen, refused, interrupted, changed, waits, stays, not_stop, not-reset, not-here, no_38h, answered, free-waits, busy-waits, listen-waits, tt)
      depth 40 fits 30000)
