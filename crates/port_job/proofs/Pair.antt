-- One pair: the port, waiting where a job does, comes to its next wait or its end where the job does. Where nothing has come it waits on. Assumes nothing.
use mathlib.Core.Bool.{Bool, true, false, not, true≢false, false≢true}
use mathlib.Core.List.{List, [], ◌∷◌}
use mathlib.Core.Path.{◌≡◌, refl, sym, ap, subst, ◌∙◌}
use Prim.Native.Nat.{ℕ, suc, ◌≤◌}
use native.Mathlib.Omega.{arith}
use borrow.Author.Tests.{eqb-true}
use lib.Dec.{eqb}
use lib.ListN.{length}
use Rattle.answer.specs.Ending.{number_of, beside_of}
use Rattle.answer.specs.declared.ending.Ending.TheVariants.{Reset}
use Rattle.answer.specs.declared.ending.Ending.{Ending}
use Rattle.control.specs.Flags.{flags_of}
use Rattle.control.specs.Turn.{off, host, free, kind, status_of}
use Rattle.control.specs.Turn as turns
use Rattle.control.specs.declared.turn.Turn.{Turn}
use Rattle.controller.specs.Event.{bad_argument, event_of}
use Rattle.controller.specs.Record.{interrupts, sound}
use Rattle.controller.specs.Reply.{Outcome, refuses, accepts}
use Rattle.controller.specs.Reset.{reset_with, reset}
use Rattle.controller.specs.declared.record.Controller.{Controller}
use Rattle.driver.specs.Run.{taking}
use Rattle.laws.proofs.Soundness.{event-stays-sound}
use Rattle.laws.proofs.Status.{status-reads, status-accepted, interrupts_exactly_in_host, idle_exactly_without_interrupt}
use Rattle.notation.proofs.Among.{apart}
use Rattle.notation.proofs.Cases.{when-true, and-true, and_no_left, split}
use Rattle.notation.specs.Choice.{when◌then◌else◌, ◌and◌, ◌or◌, among}
use Rattle.port.specs.Hear.{concludes, enters, looked, hears_at, hears, noted_at, asks_at, asks}
use Rattle.port.specs.Look.{interrupt_in, still_control, meets}
use Rattle.port.specs.Port.{step}
use Rattle.port.specs.Stage.{stage_number}
use Rattle.port.specs.Stand.{stand, ended}
use Rattle.port.specs.declared.stage.Stage.TheVariants as stage
use Rattle.port.specs.declared.stage.Stage.{Stage}
use Rattle.port.specs.declared.stand.Stand.{Stand}
use Rattle.port_job.proofs.ControlByte.{Shown, shown}
use Rattle.port_job.proofs.EventsBetween.{event-keeps}
use Rattle.port_job.proofs.Flat.{lasts}
use Rattle.port_job.proofs.InHand.{holding, unnoted}
use Rattle.port_job.proofs.Looks.{control-read, after_read_lem, looks-reset, looks-interrupted, looks-stopped, looks_on}
use Rattle.port_job.proofs.Meets.{status-met}
use Rattle.port_job.proofs.PortLines.{Follows, going, stopping, breaking, PortLine, kept_of, met-line}
use Rattle.port_job.proofs.Ready.{not-true, Freed, Left, freed, hosted, disabled}
use Rattle.port_job.proofs.Settles.{Reaches, there, rests}
use Rattle.port_job.proofs.Works.{control_of, Worked, works}
use Rattle.port_job.specs.OnModel.{At, no_access, at_rest, woken}
use Rattle.runs.proofs.FlagsHeld.{Held, awaits_stop, event-ensio, own-stopped, idle-held, work-held, reset-disables}
use Rattle.runs.proofs.Invariant.{job_turns, Good}
use Rattle.service.proofs.AnyTable.{at-reset, at_stop, at-idle, at-status}
use Rattle.service.proofs.Formed.{Formed}
use Rattle.service.proofs.Sound.{acts-sound}
use Rattle.service.specs.Act.{Then, ends, finishes, Work, does_all, follows, performs}
use Rattle.service.specs.JobTable.{job_table}
use Rattle.service.specs.Progress.{with_ending, with_fetched}
use Rattle.service.specs.Serve.{Table, serve}
use Rattle.service.specs.declared.job.Job.{Job}
use Rattle.service.specs.declared.progress.Progress.{Progress}

module _ (job : Job) (kept : List ℕ) where
  -- the port waits where the job does, and knows whether own STOP is due, and what it will answer
  pub record Waits (p : Progress) : Type 0 where
    pub status : ℕ
    pub made : ℕ
    pub due : Bool
    pub answer : ℕ
    pub due_at : due ≡ among (kind p.controller.turn) (turns.stopping ∷ [])
    pub answers : due ≡ true → (answer ≡ number_of p.ending) × (beside_of p.ending ≡ 0)

  abbrev pub waits_at : {p : Progress} → Waits p → At
  waits_at {p} w = holding kept (stand stage.Waiting job w.status w.made w.due w.answer p.count false) p

  -- the port is over where the job is, with its answer; and so the controller is left
  pub record Ends (s : At) (p : Progress) : Type 0 where
    pub status : ℕ
    pub made : ℕ
    pub same : s ≡ holding kept (stand stage.Over job status made false (number_of p.ending) p.count false) p
    pub over : p.over ≡ true
    pub beside : beside_of p.ending ≡ 0
    pub still-sound : sound p.controller ≡ true
    pub places : length p.controller.buffer ≡ 68
    pub left : Left p.controller
    pub finished : among (number_of p.ending) (0 ∷ 23 ∷ 24 ∷ []) ≡ true → Freed p.controller

  pub data Woken (s : At) (p : Progress) : Type 0 where
    waiting : (w : Waits p) → s ≡ waits_at w → p.over ≡ false → Held p → Woken s p
    over : Ends s p → Woken s p

-- event 14, where it is accepted, is the reset
reset-next : (c : Controller) (number argument : ℕ) → number ≡ 14 → (event_of c number argument).refused ≡ 0 → (event_of c number argument).next ≡ reset c
unfolding event_of refuses accepts ◌or◌ when◌then◌else◌
reset-next c number argument e =
    rw e
    (split (λ (o : Outcome). o.refused ≡ 0 → o.next ≡ reset c) (bad_argument 14 argument) _ _ (λ _ z. absurd (omega (arith, z))) (λ _ _. refl))

not-false : (b : Bool) → not b ≡ false → b ≡ true
not-false true e = refl
not-false false e = absurd (true≢false e)

-- where STO is 1 exactly if own STOP is due, it has not come
not_come : (due sto : Bool) → due ≡ sto → (due and not sto) ≡ false
unfolding ◌and◌
not_come true sto e = ap not (sym e)
not_come false sto e = refl

-- Where the port waits.
module _ {job : Job} {payload carried : List ℕ} {sent : ℕ} {p : Progress} (g : Good job payload carried sent p) (h : Held p)
    (w : Waits job (kept_of job payload) p) where
  abbrev kept : List ℕ
  kept = kept_of job payload

  abbrev stands_at : Stage → Stand
  stands_at x = stand x job w.status w.made w.due w.answer p.count false

  -- The wait is over, and this is what the bus has made of the controller.
  module _ (next : Controller) (next-sound : sound next ≡ true) where
    -- the port looks at I2CCON
    abbrev looking : At
    looking = holding kept (stands_at stage.Look) (taking p next)

    wakes : woken (waits_at job kept w).port next ≡ at_rest looking
    unfolding woken step hears hears_at noted_at stage_number when◌then◌else◌ taking
    wakes =
        ap (λ (xs : List ℕ). at_rest (holding kept (stands_at stage.Look) (with_fetched (taking p next) xs))) (unnoted p.fetched 0 g.whole.notes)

    looks : {k : ℕ} {t : Stand} {u : At} → looked (stands_at stage.Look) (control_of next) ≡ t →
        Reaches k (holding kept t (taking p next)) u → Reaches (suc k) looking u
    unfolding hears hears_at asks asks_at noted_at stage_number when◌then◌else◌ taking
    looks {k} {t} {u} e r =
        after_read_lem kept (stands_at stage.Look) (taking p next) 3 (control_of next) g.whole.notes refl refl (control-read next next-sound)
        (subst (λ (x : Stand). Reaches k (holding kept x (taking p next)) u) (sym e) r)

    -- and comes to rest
    comes_to : {k : ℕ} {t : Stand} (u : Stand) (r : Progress) → looked (stands_at stage.Look) (control_of next) ≡ t →
        Reaches k (holding kept t (taking p next)) (holding kept u r) → no_access (asks u kept) ≡ true → suc k ≤ 72 →
        woken (waits_at job kept w).port next ≡ holding kept u r
    comes_to u r e reach a l = wakes ∙ rests 72 (looks e reach) a l

  -- nothing has come: it waits on, and nothing is changed
  pub looks-again : woken (waits_at job kept w).port p.controller ≡ waits_at job kept w
  unfolding taking no_access asks asks_at
  looks-again =
      let c = p.controller in
      let see = shown c.control (interrupts c) in
      let quiet = see.interrupt ∙ apart _ job_turns (host ∷ []) tt g.turn in
      let due = not_come _ _ (w.due_at ∙ sym (see.sto ∙ h.sto)) in
      comes_to c g.whole.sound (stands_at stage.Waiting) (taking p c) (looks_on (stands_at stage.Look) (control_of c) (see.ensio ∙ h.ensio) quiet due) there
      refl (omega arith)

  -- A pair is taken.
  module _ {room places : ℕ} (form : Formed job (length payload) room places) (number argument : ℕ)
      (accepted : (event_of p.controller number argument).refused ≡ 0) where
    abbrev next : Controller
    next = (event_of p.controller number argument).next

    abbrev q : Progress
    q = taking p next

    -- the port when it has come to rest after it
    abbrev awake : At
    awake = woken (waits_at job kept w).port next

    next-sound : sound next ≡ true
    next-sound = event-stays-sound p.controller number argument g.whole.sound

    next-places : length next.buffer ≡ 68
    next-places = (event-keeps p.controller number argument).sized ∙ g.whole.places

    places-noted : length q.fetched ≡ 68
    unfolding taking
    places-noted = g.whole.notes

    see : Shown next.control (interrupts next) (control_of next)
    see = shown next.control (interrupts next)

    -- event 14
    by_reset : number ≡ 14 → Ends job kept (awake) (follows (ends Reset) q)
    unfolding follows taking no_access asks asks_at reset_with kind among when◌then◌else◌
    by_reset e =
        let is = reset-next p.controller number argument e accepted in
        let no = ap (λ (c : Controller). c.control.ensio) is ∙ reset-disables p.controller in
        record {
          status = w.status;
          made = w.made;
          same =
              comes_to next next-sound (ended (stands_at stage.Look) 29 0) q (looks-reset (stands_at stage.Look) (control_of next) (see.ensio ∙ no)) there refl
              (omega arith);
          over = refl;
          beside = refl;
          still-sound = next-sound;
          places = next-places;
          left = disabled (ap (λ (c : Controller). among (kind c.turn) (off ∷ [])) is) no;
          finished = λ f. absurd (false≢true f);
        }

    -- own STOP
    by_stop : number ≡ 4 → Ends job kept (awake) (follows finishes q)
    unfolding follows taking no_access asks asks_at kind among when◌then◌else◌
    by_stop e =
        let o = own-stopped payload form g h number argument accepted e in
        let no = ap (λ (t : Turn). among (kind t) (host ∷ [])) o.1 in
        let due = w.due_at ∙ o.0 in
        let a = w.answers due in
        let f : Freed next = record { turn = ap (λ (t : Turn). among (kind t) (free ∷ [])) o.1; ensio = o.2; sta = o.3; sto = o.4 } in
        record {
          status = w.status;
          made = w.made;
          same =
              comes_to next next-sound (ended (stands_at stage.Look) w.answer p.count) q
              (looks-stopped (stands_at stage.Look) (control_of next) (see.ensio ∙ o.2) (see.interrupt ∙ no) due (see.sto ∙ o.4)) there refl (omega arith)
              ∙ ap (λ (x : ℕ). holding kept (ended (stands_at stage.Look) x p.count) q) a.0;
          over = refl;
          beside = a.1;
          still-sound = next-sound;
          places = next-places;
          left = freed f;
          finished = λ _. f;
        }

    -- SI is 1 exactly where the status is not F8h
    idle-or-not : eqb (status_of next.turn) 0xF8 ≡ not (interrupts next)
    idle-or-not =
        ap (λ (v : ℕ). eqb v 0xF8) (sym (status-reads next next-sound)) ∙ idle_exactly_without_interrupt next next-sound
        ∙ ap not (interrupts_exactly_in_host next next-sound)

    module _ (not-reset : eqb number 14 ≡ false) where
      enabled : (flags_of (control_of next)).ensio ≡ true
      enabled = see.ensio ∙ event-ensio payload form g h number argument accepted not-reset

      -- no status: the port waits on
      by_idle : eqb number 4 ≡ false → eqb (status_of next.turn) 0xF8 ≡ true → Woken job kept (awake) q
      unfolding taking no_access asks asks_at
      by_idle not_stop e =
          let i = idle-held payload form g h number argument accepted not-reset not_stop e in
          let no = w.due_at ∙ i.1 in
          let quiet = not-true _ (sym idle-or-not ∙ e) in
          waiting (record {
            status = w.status;
            made = w.made;
            due = w.due;
            answer = w.answer;
            due_at = no ∙ sym i.2;
            answers = w.answers;
          })
          (comes_to next next-sound (stands_at stage.Waiting) q
          (looks_on (stands_at stage.Look) (control_of next) enabled (see.interrupt ∙ quiet) (and_no_left _ _ no)) there refl (omega arith))
          g.whole.lasts i.0

      module _ (f : eqb (status_of next.turn) 0xF8 ≡ false) where
        abbrev status : ℕ
        status = status_of next.turn

        meets_it : among status (meets job.direction) ≡ true
        meets_it = status-met g number argument f

        line : PortLine job kept payload status
        line = met-line job payload form status meets_it

        abbrev r : Progress
        r = does_all line.work.acts q

        -- ENSIO and SI are 1
        shows : interrupt_in (control_of next) ≡ true
        shows = see.interrupt ∙ not-false _ (sym idle-or-not ∙ f)

        taken-sound : sound q.controller ≡ true
        unfolding taking
        taken-sound = next-sound

        still : still_control (control_of q.controller) ≡ true
        unfolding still_control taking
        still = and-true _ _ enabled shows

        worked : Worked job kept status w.answer line.work line.ours w.status w.made w.due q places-noted taken-sound still
        worked =
            works job kept status w.answer line.work line.ours w.status w.made w.due q places-noted taken-sound still line.xs
            line.flat line.course

        abbrev concluded : Then → At
        concluded after = holding kept (concludes after (stand stage.Working job status worked.last false w.answer r.count false)) r

        -- the port sees that there is a status
        interrupted : looked (stands_at stage.Look) (control_of next) ≡ stands_at stage.Interrupted
        interrupted = looks-interrupted (stands_at stage.Look) (control_of next) enabled shows

        abbrev Arrives : At → Type 0
        Arrives s = Reaches (suc worked.k) (holding kept (stands_at stage.Interrupted) q) s

        -- it is read, and its work driven
        arrives : Arrives (concluded line.work.after)
        unfolding hears hears_at asks asks_at noted_at stage_number when◌then◌else◌ taking
        arrives =
            let entering = when-true _ _ _ meets_it ∙ ap (enters (stands_at stage.Interrupted) status) (line.ours p.count) in
            after_read_lem kept (stands_at stage.Interrupted) q 0 status places-noted refl refl (status-accepted next next-sound)
            (subst (λ (x : Stand). Reaches worked.k (holding kept x q) (concluded line.work.after)) (sym entering) worked.reaches)

        -- and what follows on it: the port waits on, with own STOP due or not
        waits-on : {x : Ending} (due : Bool) (answer : ℕ) →
            Arrives (holding kept (stand stage.Waiting job status worked.last due answer r.count false) (with_ending r x)) →
            (due ≡ true → (answer ≡ number_of x) × (beside_of x ≡ 0)) →
            (r.over ≡ false → Held (with_ending r x) × (among (kind r.controller.turn) (turns.stopping ∷ []) ≡ due)) → Woken job kept awake (with_ending r x)
        unfolding no_access asks asks_at taking
        waits-on {x} due answer reach a held =
            let few = worked.few in
            let h = held (lasts line.flat q ∙ g.whole.lasts) in
            waiting (record { status = status; made = worked.last; due = due; answer = answer; due_at = sym h.1; answers = a })
            (comes_to next next-sound (stand stage.Waiting job status worked.last due answer r.count false) (with_ending r x) interrupted reach refl
            (omega arith))
            (lasts line.flat q ∙ g.whole.lasts) h.0

        concludes_so : {after : Then} → Follows status line.work.acts after → Arrives (concluded after) →
            ((follows after r).over ≡ false →
            Held (follows after r) × (among (kind (follows after r).controller.turn) (turns.stopping ∷ []) ≡ awaits_stop after)) →
            Woken job kept (awake) (follows after r)
        unfolding follows concludes taking no_access asks asks_at
        concludes_so going reach held = waits-on false w.answer reach (λ e. absurd (false≢true e)) held
        concludes_so (stopping e b) reach held = waits-on true (number_of e) reach (λ _. (refl, b)) held
        concludes_so (breaking e b n stays) reach held =
            let few = worked.few in
            let left = stays q next-sound refl in
            over (record {
              status = status;
              made = worked.last;
              same = comes_to next next-sound _ r interrupted reach refl (omega arith);
              over = refl;
              beside = b;
              still-sound = acts-sound line.work.acts q next-sound;
              places = ap length left.1 ∙ next-places;
              left = hosted left.0;
              finished = λ z. absurd (true≢false (sym z ∙ n));
            })

        by_work : Woken job kept (awake) (performs (job_table job payload status p.count) q)
        unfolding performs
        by_work =
            subst (λ (x : Work). Woken job kept (awake) (performs x q)) (sym (line.theirs p.count))
            (concludes_so line.follows arrives
            (subst (λ (x : Work). (performs x q).over ≡ false →
            Held (performs x q) × (among (kind (performs x q).controller.turn) (turns.stopping ∷ []) ≡ awaits_stop x.after))
            (line.theirs p.count) (work-held payload form g h number argument accepted p.count not-reset f)))

    abbrev table : Table
    table = job_table job payload

    pub pair : Woken job kept (awake) (serve table number q)
    unfolding taking
    pair = by_event (eqb number 14) (eqb number 4) (eqb (status_of next.turn) 0xF8) refl refl refl
      where
        by_event : (a b c : Bool) → eqb number 14 ≡ a → eqb number 4 ≡ b → eqb (status_of next.turn) 0xF8 ≡ c →
            Woken job kept (awake) (serve table number q)
        by_event true b c e m n = let is = eqb-true number 14 e in subst (Woken job kept _) (sym (at-reset table number q is)) (over (by_reset is))
        by_event false true c e m n = let is = eqb-true number 4 m in subst (Woken job kept _) (sym (at_stop table number q is)) (over (by_stop is))
        by_event false false true e m n = subst (Woken job kept _) (sym (at-idle table number q e m next-sound n)) (by_idle e m n)
        by_event false false false e m n = subst (Woken job kept _) (sym (at-status table number q e m next-sound n)) (by_work e n)
