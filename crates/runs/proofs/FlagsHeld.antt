-- The flags while a job lasts: ENSIO is 1, STA is 1 exactly in Free, Busy and Listen, and STO is 1 exactly in Stopping. Assumes nothing.
use mathlib.Core.Bool.{Bool, true, false, true≢false}
use mathlib.Core.List.{List, [], ◌∷◌, ◌++◌, map}
use mathlib.Core.Logic.{⊎_elim}
use mathlib.Core.Path.{◌≡◌, refl, sym, ap, subst, ◌∙◌}
use Prim.Native.Nat.{ℕ, suc}
use borrow.Author.Tests.{eqb-true}
use lib.Dec.{T, eqb}
use lib.ListN.{length, take}
use Rattle.std.specs.Prelude.{Option, Some}
use Rattle.answer.specs.declared.ending.Ending.TheVariants.{Done, AddressNacked, DataNacked, Lost, Fault}
use Rattle.answer.specs.declared.ending.Ending.{Ending}
use Rattle.control.proofs.Turning.{hosted-turn}
use Rattle.control.specs.Flags.{flags_of}
use Rattle.control.specs.Turn.{faults, stopping, wire_turns, kind, status_of, edge_of}
use Rattle.control.specs.Writing.{end_or, responds_at, response}
use Rattle.control.specs.declared.flags.Control.{Control}
use Rattle.control.specs.declared.turn.Turn.TheVariants as turn
use Rattle.control.specs.declared.turn.Turn.{Turn}
use Rattle.controller.specs.Access.{indirect_at, bars_write, write_sound, write_of}
use Rattle.controller.specs.Event.{event_of}
use Rattle.controller.specs.I2ccon.{keeps, controlled, bad_count, enabled, write_flags, write_control}
use Rattle.controller.specs.Record.{sound}
use Rattle.controller.specs.Registers.{wrote, write_pointer, write_data}
use Rattle.controller.specs.Reply.{Outcome, refuses, accepts}
use Rattle.controller.specs.Reset.{reset_with}
use Rattle.controller.specs.declared.record.Controller.{Controller}
use Rattle.driver.specs.Run.{taking}
use Rattle.laws.proofs.Soundness.{event-stays-sound}
use Rattle.laws.proofs.Status.{status-reads}
use Rattle.notation.proofs.Among.{has, one_of, apart}
use Rattle.notation.proofs.Cases.{when-false, and_left, split}
use Rattle.notation.specs.Choice.{when◌then◌else◌, ◌and◌, ◌or◌, among}
use Rattle.runs.proofs.Accepted.{works}
use Rattle.runs.proofs.ActsKeep.{AllWrite, data_writes, Kept, refused, accepted, chosen, not_this, act-keeps, follows-keeps}
use Rattle.runs.proofs.Begins.{begins_to, ready-waits}
pub use Rattle.runs.proofs.Begins.{good-begun}
use Rattle.runs.proofs.ComesFrom.{turns_before, event-comes}
use Rattle.runs.proofs.Events.{lasting}
use Rattle.runs.proofs.FlagsStay.{never, own_stop_lem, event-stays}
use Rattle.runs.proofs.Invariant.{In, waiting_turns, early_turns, Good}
use Rattle.runs.proofs.Lines.{Line, job_lines}
use Rattle.runs.specs.Accesses.{AllAccepted, job_statuses}
use Rattle.runs.specs.Flags.{HeldThroughout, FlagsHeld, ResetDisables}
pub use Rattle.runs.specs.Flags.{Held}
use Rattle.service.proofs.Formed.{Formed, formed}
use Rattle.service.specs.Act.{Act, writes, reads_all, counts, Then, goes_on, awaits, ends, finishes, Work, put, reads, does, does_all, follows, performs}
use Rattle.service.specs.JobSteps.{begins, finds_moved, stop_after, end_after}
use Rattle.service.specs.JobTable.{job_table}
use Rattle.service.specs.Progress.{starting}
use Rattle.service.specs.Request.{ready}
use Rattle.service.specs.Serve.{starts, serve}
use Rattle.service.specs.declared.job.Job.{Job}
use Rattle.service.specs.declared.progress.Progress.{Progress}

-- own STOP is awaited after some work
abbrev pub awaits_stop : Then → Bool
awaits_stop goes_on = false
awaits_stop (awaits e) = true
awaits_stop (ends e) = false
awaits_stop finishes = false

-- turn and flags of a record
abbrev Parts : Type 0
Parts = Turn × Control

abbrev parts_of : Controller → Parts
parts_of c = (c.turn, c.control)

held_by : (q : Progress) (t : Turn) (k : Control) → parts_of q.controller ≡ (t, k) → k.ensio ≡ true → k.sta ≡ among (kind t) waiting_turns →
    k.sto ≡ among (kind t) (stopping ∷ []) → Held q
held_by q t k e a b c =
    let flag : (f : Control → Bool) → f q.controller.control ≡ f k = λ f. ap (λ (u : Parts). f u.1) e in
    let turn : (ls : List ℕ) → among (kind t) ls ≡ among (kind q.controller.turn) ls = λ ls. ap (λ (u : Parts). among (kind u.0) ls) (sym e) in
    record { ensio = flag (λ k. k.ensio) ∙ a; sta = flag (λ k. k.sta) ∙ b ∙ turn waiting_turns; sto = flag (λ k. k.sto) ∙ c ∙ turn (stopping ∷ []) }

-- a job begun in Free, Busy or Listen, with STO 0
pub held-begun : (job : Job) (c : Controller) → sound c ≡ true → among (kind c.turn) waiting_turns ≡ true → c.control.sto ≡ false →
    Held (starts (begins job) c)
unfolding starts starting does_all does keeps flags_of
held-begun job c s w z =
    let off = apart _ waiting_turns (stopping ∷ []) tt w in
    held_by _ c.turn (keeps c.control (flags_of 0x60) c.turn) (ap parts_of (begins_to job c s w)) refl (sym w) (when-false _ _ _ off ∙ z ∙ sym off)

-- I2CCON written with ENSIO 1: where it is accepted it leads where the rules list it, and the flags are stored
control_led : (c : Controller) (value : ℕ) (t : Turn) → (flags_of value).ensio ≡ true → response c.turn (flags_of value) ≡ Some t →
    (write_of c 3 value).refused ≡ 0 → parts_of (put c 3 value) ≡ (t, keeps c.control (flags_of value) t)
unfolding put write_of write_sound indirect_at bars_write write_control write_flags enabled controlled wrote refuses accepts when◌then◌else◌ ◌and◌ ◌or◌
control_led c value t e r =
    let k = flags_of value in
    let P : Outcome → Type 0 = λ o. o.refused ≡ 0 → parts_of o.next ≡ (t, keeps c.control k t) in
    let not-refused : (n : ℕ) → P (refuses c (suc n)) = λ n z. absurd (never n z) in
    split P (sound c) _ _
    (λ _. split P (among (kind c.turn) wire_turns) _ _ (λ _. not-refused 2)
    (λ _. split P (among (status_of c.turn) faults) _ _ (λ _. not-refused 3)
    (λ _. split P k.ensio _ _
    (λ _. subst (λ (x : Option Turn). P (enabled c k x)) (sym r) (split P (bad_count c k t) _ _ (λ _. not-refused 5) (λ _ _. refl)))
    (λ n. absurd (true≢false (sym e ∙ n))))))
    (λ _. not-refused 9)

-- INDPTR and I2CDAT written: turn and flags stay
neither : (c : Controller) (register : ℕ) (o : Outcome) → T (has (0 ∷ 1 ∷ []) register) → eqb register 0 ≡ false → eqb register 1 ≡ false →
    Kept parts_of c o
neither c register o t e f = absurd (rw (has, e, f) at t)

write_keeps : (c : Controller) (register value : ℕ) → T (has (0 ∷ 1 ∷ []) register) → Kept parts_of c (write_of c register value)
unfolding write_of write_sound write_pointer write_data wrote
write_keeps c register value t =
    search (chosen parts_of, refused parts_of, accepted parts_of, not_this parts_of c (0 ∷ 1 ∷ []), neither) depth 20

-- acts that write these two, and then I2CCON
last_led : (acts : List Act) (value : ℕ) (p : Progress) (t : Turn) → AllWrite (0 ∷ 1 ∷ []) acts → AllAccepted (acts ++ (writes 3 value ∷ [])) p →
    (flags_of value).ensio ≡ true → response p.controller.turn (flags_of value) ≡ Some t →
    parts_of (does_all (acts ++ (writes 3 value ∷ [])) p).controller ≡ (t, keeps p.controller.control (flags_of value) t)
unfolding does_all does
last_led [] value p t w a e r = control_led p.controller value t e r a.0
last_led (x ∷ xs) value p t w a e r =
    let k = flags_of value in
    let same = act-keeps parts_of (λ _ _. refl) (0 ∷ 1 ∷ []) write_keeps x p w.0 in
    last_led xs value (does x p) t w.1 a.1 e (ap (λ (u : Parts). response u.0 k) same ∙ r) ∙ ap (λ (u : Parts). (t, keeps u.1 k t)) same

-- After an accepted pair.
module _ {room places : ℕ} {job : Job} (payload : List ℕ) (form : Formed job (length payload) room places)
    {carried : List ℕ} {sent : ℕ} {p : Progress} (g : Good job payload carried sent p) (h : Held p) (number argument : ℕ)
    (accepted : (event_of p.controller number argument).refused ≡ 0) where
  abbrev next : Controller
  next = (event_of p.controller number argument).next

  abbrev status : ℕ
  status = status_of next.turn

  pub own-stopped : number ≡ 4 →
      In p (stopping ∷ []) × (next.turn ≡ turn.Free) × (next.control.ensio ≡ true) × (next.control.sta ≡ false) × (next.control.sto ≡ false)
  own-stopped e =
      let s = own_stop_lem p.controller number argument e accepted in
      let off = h.sta ∙ apart _ (stopping ∷ []) waiting_turns tt s.0 in
      (s.0, s.1, ap (λ (k : Control). k.ensio) s.2 ∙ h.ensio, ap (λ (k : Control). k.sta) s.2 ∙ off, ap (λ (k : Control). k.sto) s.2)

  pub event-ensio : eqb number 14 ≡ false → next.control.ensio ≡ true
  event-ensio x = by_stop (eqb number 4) refl
    where
      by_stop : (b : Bool) → eqb number 4 ≡ b → next.control.ensio ≡ true
      by_stop true y = (own-stopped (eqb-true number 4 y)).2
      by_stop false y = ap (λ (k : Control). k.ensio) (event-stays g number x y argument).flags ∙ h.ensio

  pub idle-held : eqb number 14 ≡ false → eqb number 4 ≡ false → eqb status 0xF8 ≡ true →
      Held (taking p next) × (among (kind p.controller.turn) (stopping ∷ []) ≡ false) × (among (kind next.turn) (stopping ∷ []) ≡ false)
  unfolding taking
  idle-held x y f =
      let stays = event-stays g number x y argument in
      let alike = stays.turn accepted f in
      let sta = h.sta ∙ sym alike.waiting in
      let sto = h.sto ∙ alike.before ∙ sym alike.after in
      (held_by _ next.turn _ (ap (λ (k : Control). (next.turn, k)) stays.flags) h.ensio sta sto, alike.before, alike.after)

  -- The work at a status, line by line of the table.
  module _ (x : eqb number 14 ≡ false) (f : eqb status 0xF8 ≡ false) where
    no_stop : (b : Bool) → eqb number 4 ≡ b → b ≡ false
    unfolding status_of
    no_stop true y = absurd (true≢false (sym (ap (λ (t : Turn). eqb (status_of t) 0xF8) (own-stopped (eqb-true number 4 y)).1) ∙ f))
    no_stop false y = refl

    -- a status that comes from a turn in which nothing was sent finds STO 0
    clear : (k : ℕ) → status ≡ k → turns_before k ≡ early_turns → next.control.sto ≡ false
    clear k e b =
        let early = subst (In p) b (subst (λ (s : ℕ). In p (turns_before s)) e (event-comes g number argument).turn) in
        ap (λ (k : Control). k.sto) (event-stays g number x (no_stop _ refl) argument).flags ∙ h.sto ∙ apart _ early_turns (stopping ∷ []) tt early

    abbrev Holds : Work → Type 0
    Holds w =
        let q = performs w (taking p next) in
        AllAccepted w.acts (taking p next) → q.over ≡ false → Held q × (among (kind q.controller.turn) (stopping ∷ []) ≡ awaits_stop w.after)

    -- some acts, then an I2CCON write that leads to this turn
    leads : (acts : List Act) (value : ℕ) (after : Then) (t : Turn) (k : ℕ) → status ≡ k → AllWrite (0 ∷ 1 ∷ []) acts → (flags_of value).ensio ≡ true →
        responds_at k (edge_of next.turn) (flags_of value) ≡ Some t → (flags_of value).sta ≡ among (kind t) waiting_turns →
        (keeps next.control (flags_of value) t).sto ≡ among (kind t) (stopping ∷ []) → among (kind t) (stopping ∷ []) ≡ awaits_stop after →
        Holds (record { acts = acts ++ (writes 3 value ∷ []); after = after })
    unfolding performs taking response keeps kind status_of edge_of among when◌then◌else◌
    leads acts value after t k e w n r sta sto b a o =
        let q = taking p next in
        let done = follows-keeps after (does_all (acts ++ (writes 3 value ∷ [])) q) in
        let at = hosted-turn next.turn f ∙ ap (λ (s : ℕ). turn.Host s (edge_of next.turn)) e in
        let parts = ap parts_of done ∙ last_led acts value q t w a n (ap (λ (u : Turn). response u (flags_of value)) at ∙ r) in
        (held_by _ t _ parts n sta sto, ap (λ (u : Parts). among (kind u.0) (stopping ∷ [])) parts ∙ b)

    stops : (acts : List Act) (e : Ending) (k : ℕ) → status ≡ k → AllWrite (0 ∷ 1 ∷ []) acts →
        responds_at k (edge_of next.turn) (flags_of 0x50) ≡ Some turn.Stopping → Holds (stop_after acts e)
    unfolding kind keeps flags_of among when◌then◌else◌
    stops acts ending k e w r = leads acts 0x50 (awaits ending) turn.Stopping k e w refl r refl refl refl

    over : (acts : List Act) (e : Ending) → Holds (end_after acts e)
    unfolding performs follows
    over acts e a o = absurd (true≢false o)

    all_hold : (count : ℕ) → Holds (job_table job payload status count)
    unfolding kind keeps flags_of responds_at end_or among when◌then◌else◌ ◌or◌
    all_hold count =
        let lines = job_lines job payload in
        let xs = take job.n payload in
        let Here = Holds (job_table job payload status count) in
        let at : (k : ℕ) (w : Work) → Line (job_table job payload) k w → (status ≡ k → Holds w) → status ≡ k → Here = λ k w line holds e.
        subst Holds (sym (ap (λ (s : ℕ). job_table job payload s count) e ∙ line count)) (holds e) in
        ⊎_elim (at 0x08 _ lines.at_08 (λ e. leads (writes 1 _ ∷ []) 0x40 goes_on turn.Address 0x08 e (tt, tt) refl refl refl (clear 0x08 e refl) refl))
        (⊎_elim (at 0x18 _ lines.at_18 (λ e. leads (map (writes 1) xs) 0x41 goes_on turn.Send 0x18 e
        (data_writes (0 ∷ 1 ∷ []) xs tt) refl refl refl (clear 0x18 e refl) refl))
        (⊎_elim (at 0x40 _ lines.at_40 (λ e. leads [] 0x41 goes_on turn.Receive 0x40 e tt refl refl refl (clear 0x40 e refl) refl))
        (⊎_elim (at 0x20 _ lines.at_20 (λ e. stops (counts 0 ∷ []) AddressNacked 0x20 e (tt, tt) refl))
        (⊎_elim (at 0x28 _ lines.at_28 (λ e. stops (counts job.n ∷ []) Done 0x28 e (tt, tt) refl))
        (⊎_elim (at 0x30 _ lines.at_30 (λ e. stops finds_moved DataNacked 0x30 e (tt, (tt, (tt, tt))) refl))
        (⊎_elim (at 0x48 _ lines.at_48 (λ e. stops (counts 0 ∷ []) AddressNacked 0x48 e (tt, tt) refl))
        (⊎_elim (at 0x58 _ lines.at_58 (λ e. stops (counts job.n ∷ reads_all ∷ []) Done 0x58 e (tt, (tt, tt)) refl))
        (⊎_elim (at 0x38 _ lines.at_38 (λ _. over (writes 3 0x40 ∷ []) Lost))
        (⊎_elim (at 0x00 _ lines.at_00 (λ _. over [] Fault))
        (⊎_elim (at 0x70 _ lines.at_70 (λ _. over [] Fault)) (at 0x78 _ lines.at_78 (λ _. over [] Fault))))))))))))
        (one_of job_statuses status ((event-comes g number argument).given f).listed)

  pub work-held : (count : ℕ) → eqb number 14 ≡ false → eqb status 0xF8 ≡ false →
      let w = job_table job payload status count in
      let q = performs w (taking p next) in
      q.over ≡ false → Held q × (among (kind q.controller.turn) (stopping ∷ []) ≡ awaits_stop w.after)
  work-held count x f = all_hold x f count (works payload form g number argument f count)

  -- any pair
  pair_held : (serve (job_table job payload) number (taking p next)).over ≡ false → Held (serve (job_table job payload) number (taking p next))
  unfolding serve follows reads taking
  pair_held =
      let e = status-reads next (event-stays-sound p.controller number argument g.whole.sound) in
      let P : Progress → Type 0 = λ q. q.over ≡ false → Held q in
      let at-status : ℕ → Type 0 = λ s. P (when eqb s 0xF8 then taking p next else performs (job_table job payload s p.count) (taking p next)) in
      split P (eqb number 14) _ _ (λ _ o. absurd (true≢false o))
      (λ x. split P (eqb number 4) _ _ (λ _ o. absurd (true≢false o))
      (λ y. subst at-status (sym e) (split P (eqb status 0xF8) _ _ (λ f _. (idle-held x y f).0) (λ f o. (work-held p.count x f o).0))))

module _ {room places : ℕ} {job : Job} (payload : List ℕ) (form : Formed job (length payload) room places) where
  throughout : (script : List ℕ) {carried : List ℕ} {sent : ℕ} {p : Progress} → Good job payload carried sent p → Held p →
      HeldThroughout (job_table job payload) p script
  throughout [] g h = h
  throughout (event ∷ []) g h = h
  throughout (event ∷ argument ∷ rest) g h = (
    h,
    λ a o. throughout rest (lasting (job_table job payload) payload form (job_lines job payload) g event argument a o)
        (pair_held payload form g h event argument (eqb-true _ _ a) o),
  )

pub flags-held : FlagsHeld
unfolding ready
flags-held job payload room places script c m r z l =
    let s = and_left _ _ r in
    let w = ready-waits c r in
    throughout payload (formed job (length payload) room places (length script) m) script (good-begun job payload c s w l) (held-begun job c s w z)

pub reset-disables : ResetDisables
unfolding reset_with
reset-disables c = refl
