-- When the port takes a controller for ready, and when the model does. Assumes nothing.
use mathlib.Core.Bool.{Bool, true, false, not, true≢false, false≢true}
use mathlib.Core.List.{[], ◌∷◌}
use mathlib.Core.Logic.{◌⊎◌, inl, inr, ⊎_elim}
use mathlib.Core.Path.{◌≡◌, refl, sym, ap, subst, ◌∙◌}
use Prim.Native.Nat.{ℕ}
use borrow.Author.Tests.{eq-eqb}
use Rattle.control.proofs.Turning.{status-idle}
use Rattle.control.specs.Turn.{off, host, free, busy, listen, wire_turns, kind, status_of}
use Rattle.control.specs.declared.turn.Turn.TheVariants.{Off, Host, Free, Busy, Listen}
use Rattle.control.specs.declared.turn.Turn.TheVariants.{Address, Send, Receive, SlaveReceive, SlaveSend, Stopping, Restarting}
use Rattle.control.specs.declared.turn.Turn.{Turn}
use Rattle.controller.specs.Record.{interrupts, sound}
use Rattle.controller.specs.declared.record.Controller.{Controller}
use Rattle.laws.proofs.Status.{status-reads, control-reads}
use Rattle.notation.proofs.Among.{keys_in, within, one_of, apart, clash}
use Rattle.notation.proofs.Cases.{and-true, and_no_left, and_no_right, and_left, and_right}
use Rattle.notation.specs.Choice.{when◌then◌else◌, among}
use Rattle.port.specs.Look.{idle_control}
use Rattle.port_job.proofs.ControlByte.{Shown, shown}
use Rattle.port_job.specs.Items.{looks_ready}
use Rattle.runs.proofs.Invariant.{waiting_turns}
use Rattle.service.specs.Act.{reads}
use Rattle.service.specs.Request.{ready}

pub not-true : (b : Bool) → not b ≡ true → b ≡ false
not-true true e = absurd (false≢true e)
not-true false e = refl

-- as own STOP and a recovery leave it
pub record Freed (c : Controller) : Type 0 where
  pub turn : among (kind c.turn) (free ∷ []) ≡ true
  pub ensio : c.control.ensio ≡ true
  pub sta : c.control.sta ≡ false
  pub sto : c.control.sto ≡ false

-- as a job that came to its end leaves it: after own STOP, at 38h or a fault, or reset
pub data Left (c : Controller) : Type 0 where
  freed : Freed c → Left c
  hosted : among (kind c.turn) (host ∷ []) ≡ true → Left c
  disabled : among (kind c.turn) (off ∷ []) ≡ true → c.control.ensio ≡ false → Left c

-- between jobs, where nothing was given up
pub record Calm (c : Controller) : Type 0 where
  pub off-wire : among (kind c.turn) wire_turns ≡ false
  pub disabled : among (kind c.turn) (off ∷ []) ≡ true → c.control.ensio ≡ false

pub left-calm : {c : Controller} → Left c → Calm c
left-calm (freed f) = record { off-wire = apart _ (free ∷ []) wire_turns tt f.turn; disabled = λ o. clash _ (free ∷ []) (off ∷ []) tt f.turn o }
left-calm (hosted h) = record { off-wire = apart _ (host ∷ []) wire_turns tt h; disabled = λ o. clash _ (host ∷ []) (off ∷ []) tt h o }
left-calm (disabled o e) = record { off-wire = apart _ (off ∷ []) wire_turns tt o; disabled = λ _. e }

pub waiting-calm : {c : Controller} → among (kind c.turn) waiting_turns ≡ true → Calm c
waiting-calm w = record { off-wire = apart _ waiting_turns wire_turns tt w; disabled = λ o. clash _ waiting_turns (off ∷ []) tt w o }

-- the turn is neither Off nor Host nor a wire turn
waiting-turn : (t : Turn) → (among (kind t) (off ∷ []) ≡ true → ⊥) → among (kind t) (host ∷ []) ≡ false → among (kind t) wire_turns ≡ false →
    among (kind t) waiting_turns ≡ true
unfolding kind among when◌then◌else◌
waiting-turn Off o h w = absurd (o refl)
waiting-turn (Host s e) o h w = absurd (true≢false h)
waiting-turn Free o h w = refl
waiting-turn Busy o h w = refl
waiting-turn Listen o h w = refl
waiting-turn Address o h w = absurd (true≢false w)
waiting-turn Send o h w = absurd (true≢false w)
waiting-turn Receive o h w = absurd (true≢false w)
waiting-turn (SlaveReceive x) o h w = absurd (true≢false w)
waiting-turn SlaveSend o h w = absurd (true≢false w)
waiting-turn Stopping o h w = absurd (true≢false w)
waiting-turn Restarting o h w = absurd (true≢false w)

module _ (c : Controller) (s : sound c ≡ true) where
  -- what register 3 shows, as the port looks at it
  pub shows : Shown c.control (interrupts c) (reads c 3)
  unfolding reads
  shows = subst (λ (v : ℕ). Shown c.control (interrupts c) v) (sym (control-reads c s)) (shown c.control (interrupts c))

  status-shown : reads c 0 ≡ status_of c.turn
  unfolding reads
  status-shown = status-reads c s

  -- ENSIO 0, or SI 1: it does not look ready
  not-off : c.control.ensio ≡ false → looks_ready c ≡ false
  unfolding looks_ready idle_control
  not-off e = and_no_left _ _ (and_no_left _ _ (shows.ensio ∙ e))

  not-interrupting : interrupts c ≡ true → looks_ready c ≡ false
  unfolding looks_ready idle_control
  not-interrupting i =
      and_no_left _ _ (and_no_right _ _ (and_no_right _ _ (and_no_right _ _ (ap not (shows.interrupt ∙ i)))))

  -- ENSIO 1, STA and STO 0: it looks ready wherever it waits for the bus
  pub waiting-looks : among (kind c.turn) waiting_turns ≡ true → c.control.ensio ≡ true → c.control.sta ≡ false → c.control.sto ≡ false →
      looks_ready c ≡ true
  unfolding looks_ready idle_control
  waiting-looks w en sta sto =
      let quiet = apart _ waiting_turns (host ∷ []) tt w in
      and-true _ _
      (and-true _ _ (shows.ensio ∙ en) (and-true _ _ (ap not (shows.sta ∙ sta))
      (and-true _ _ (ap not (shows.sto ∙ sto)) (ap not (shows.interrupt ∙ quiet)))))
      (eq-eqb _ 0xF8 (status-shown ∙ status-idle c.turn quiet))

  pub freed-looks : Freed c → looks_ready c ≡ true
  freed-looks f = waiting-looks (within _ (free ∷ []) waiting_turns tt f.turn) f.ensio f.sta f.sto

  pub freed-ready : Freed c → ready c ≡ true
  unfolding ready
  freed-ready f = and-true _ _ s (and-true _ _ f.turn (and-true _ _ f.ensio (ap not f.sta)))

  -- a turn that is not Free is not ready
  pub elsewhere : among (kind c.turn) (free ∷ []) ≡ false → ready c ≡ false
  unfolding ready
  elsewhere e = and_no_right _ _ (and_no_left _ _ e)

  -- so where a job came to its end, port and model agree
  pub alike : Left c → looks_ready c ≡ ready c
  alike (freed f) = freed-looks f ∙ sym (freed-ready f)
  alike (hosted h) = not-interrupting h ∙ sym (elsewhere (apart _ (host ∷ []) (free ∷ []) tt h))
  alike (disabled o e) = not-off e ∙ sym (elsewhere (apart _ (off ∷ []) (free ∷ []) tt o))

  -- what looks ready between jobs
  pub record Looks : Type 0 where
    pub turn : among (kind c.turn) waiting_turns ≡ true
    pub sto : c.control.sto ≡ false
    pub ready-or-busy : (ready c ≡ true) ⊎ (among (kind c.turn) (busy ∷ listen ∷ []) ≡ true)

  -- in Free it is ready
  free-or-not : among (kind c.turn) waiting_turns ≡ true → c.control.ensio ≡ true → c.control.sta ≡ false →
      (ready c ≡ true) ⊎ (among (kind c.turn) (busy ∷ listen ∷ []) ≡ true)
  unfolding ready
  free-or-not w en sta =
      ⊎_elim (λ e. inl (and-true _ _ s (and-true _ _ (keys_in (free ∷ []) _ e true (free ∷ []) tt) (and-true _ _ en (ap not sta)))))
      (λ e. inr (keys_in (busy ∷ listen ∷ []) _ e true (busy ∷ listen ∷ []) tt)) (one_of waiting_turns (kind c.turn) w)

  pub calm-looks : Calm c → looks_ready c ≡ true → Looks
  unfolding looks_ready idle_control
  calm-looks k e =
      let flags = and_left _ _ e in
      let en = sym shows.ensio ∙ and_left _ _ flags in
      let sta = sym shows.sta ∙ not-true _ (and_left _ _ (and_right _ _ flags)) in
      let more = and_right _ _ (and_right _ _ flags) in
      let w = waiting-turn c.turn (λ o. true≢false (sym en ∙ k.disabled o)) (sym shows.interrupt ∙ not-true _ (and_right _ _ more)) k.off-wire in
      record { turn = w; sto = sym shows.sto ∙ not-true _ (and_left _ _ more); ready-or-busy = free-or-not w en sta }
