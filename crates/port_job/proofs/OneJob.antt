-- One job by the port: what it gives, and how it leaves port and controller. Assumes nothing.
use mathlib.Core.Bool.{Bool, true, false, false≢true}
use mathlib.Core.List.{List, [], ◌∷◌}
use mathlib.Core.Path.{◌≡◌, refl, sym, ap, subst, ◌∙◌}
use Prim.Native.Nat.{ℕ, suc, ◌≤◌}
use native.Mathlib.Omega.{arith}
use lib.Dec.{eqb}
use lib.ListN.{length, length-replicate}
use Rattle.control.specs.Turn.{kind}
use Rattle.control.specs.Turn as turns
use Rattle.control.specs.declared.turn.Turn.{Turn}
use Rattle.controller.specs.Access.{read_of}
use Rattle.controller.specs.Record.{sound}
use Rattle.controller.specs.Reply.{Outcome, accepts}
use Rattle.controller.specs.declared.record.Controller.{Controller}
use Rattle.driver.specs.Run.{run, reports, declines}
use Rattle.laws.proofs.Status.{status-accepted}
use Rattle.notation.proofs.Among.{apart}
use Rattle.notation.proofs.Cases.{when-true, when-false, and-true, and_no_left, and_no_right, and_left, and_right}
use Rattle.notation.specs.Choice.{when◌then◌else◌, ◌or◌, among}
use Rattle.port.specs.Begin.{unfit, unsettled, start_of}
use Rattle.port.specs.HandUp.{take_of}
use Rattle.port.specs.Hear.{hears_at, hears, noted_at, asks_at, asks}
use Rattle.port.specs.Look.{idle_control}
use Rattle.port.specs.Port.{asking, started}
use Rattle.port.specs.Stage.{stage_number}
use Rattle.port.specs.Stand.{stand, no_job}
use Rattle.port.specs.declared.ask.Ask.TheVariants.{Over}
use Rattle.port.specs.declared.stage.Stage.TheVariants as stage
use Rattle.port.specs.declared.stage.Stage.{Stage}
use Rattle.port.specs.declared.stand.Stand.{Stand}
use Rattle.port_job.proofs.Drives.{is_write, Drives, drives}
use Rattle.port_job.proofs.InHand.{holding, hand, beginning}
use Rattle.port_job.proofs.Looks.{control-read, after_read_lem}
use Rattle.port_job.proofs.Pair.{Waits, waits_at}
use Rattle.port_job.proofs.PortLines.{kept_of}
use Rattle.port_job.proofs.Ready.{Calm, Looks, calm-looks}
use Rattle.port_job.proofs.Script.{Leaves, Gives, over-plays, plays-run}
use Rattle.port_job.proofs.Settles.{Reaches, there, rests}
use Rattle.port_job.specs.Items.{looks_ready, port_job_of}
use Rattle.port_job.specs.OnModel.{At, at, Played, ends_so, no_access, plays, at_rest, played, reported}
use Rattle.runs.proofs.Begins.{begins_to}
use Rattle.runs.proofs.FlagsHeld.{Held, held-begun, good-begun}
use Rattle.runs.proofs.Invariant.{waiting_turns, Good}
use Rattle.service.proofs.Formed.{formed}
use Rattle.service.specs.Act.{reads, does, does_all}
use Rattle.service.specs.JobSteps.{begins}
use Rattle.service.specs.JobTable.{job_table}
use Rattle.service.specs.Progress.{starting}
use Rattle.service.specs.Serve.{starts}
use Rattle.service.specs.declared.job.Job.{Job}
use Rattle.service.specs.declared.progress.Progress.{Progress}

-- how a job leaves port and controller: a job that did not begin leaves them as they were
pub data JobLeaves (s : At) (r : Played) : Type 0 where
  untouched : r.result.next ≡ s.chip → unsettled r.port.stand ≡ unsettled s.port.stand →
      among r.result.answer (0 ∷ 23 ∷ 24 ∷ []) ≡ false → JobLeaves s r
  began : Leaves r → JobLeaves s r

-- where the port has come to rest when a job has begun: it is over, or it waits
pub data Rests (asked : Job) (payload : List ℕ) (s : At) : Type 0 where
  at-end : (answer : ℕ) → asking s.port ≡ Over answer 0 → Rests asked payload s
  at_wait : {p : Progress} → unfit asked (length payload) ≡ false → Good asked payload [] 0 p → Held p → (w : Waits asked (kept_of asked payload) p) →
      s ≡ waits_at asked (kept_of asked payload) w → Rests asked payload s

-- what a job gives
pub record JobGives (asked : Job) (payload script : List ℕ) (s : At) (r : Played) : Type 0 where
  pub same : reported r ≡ port_job_of asked payload script s.port.stand s.chip
  pub leaves : JobLeaves s r
  pub rested : Rests asked payload (at_rest (at (started s.port asked payload) s.chip))

-- what a register read, where it is read and nothing changes
as_read : (c : Controller) (register value : ℕ) → read_of c register ≡ accepts c value → read_of c register ≡ accepts c (reads c register)
unfolding reads accepts
as_read c register value e = e ∙ ap (λ (v : ℕ). accepts c v) (sym (ap (λ (o : Outcome). o.value) e))

module _ (asked : Job) (payload script : List ℕ) (s : At) where
  abbrev kept : List ℕ
  kept = kept_of asked payload

  abbrev c : Controller
  c = s.chip

  -- the port as it begins, and the notes of a job that begins
  abbrev standing : Stand → At
  standing x = holding kept x (starting c)

  abbrev over_at : Job → ℕ → Bool → At
  over_at job answer stale = standing (stand stage.Over job 0 0 false answer 0 stale)

  -- the job is answered so, and nothing was written
  declined : (job : Job) (answer : ℕ) (stale : Bool) → eqb answer 0 ≡ false →
      reported (plays (over_at job answer stale) 0 script) ≡ declines c answer
  unfolding reported ends_so declines take_of stage_number asks asks_at starting when◌then◌else◌
  declined job answer stale z =
      ap reported (over-plays (over_at job answer stale) answer 0 0 script refl) ∙ rw z

  -- before anything is asked for
  abbrev begun : At
  begun = standing (start_of s.port.stand asked (length payload))

  played-from : {t : At} → at_rest begun ≡ t → played asked payload script s ≡ plays t 0 script
  unfolding played started starting
  played-from e = ap (λ (u : At). plays u 0 script) e

  declines_so : (job : Job) (answer : ℕ) (stale : Bool) → eqb answer 0 ≡ false → among answer (0 ∷ 23 ∷ 24 ∷ []) ≡ false →
      stale ≡ unsettled s.port.stand → at_rest begun ≡ over_at job answer stale →
      port_job_of asked payload script s.port.stand c ≡ declines c answer → JobGives asked payload script s (played asked payload script s)
  unfolding ends_so unsettled stage_number starting started asks asks_at ◌or◌
  declines_so job answer stale z n u e d =
      subst (JobGives asked payload script s) (sym (played-from e))
      (record {
        same = declined job answer stale z ∙ sym d;
        leaves =
            subst (JobLeaves s) (sym (over-plays (over_at job answer stale) answer 0 0 script refl)) (untouched refl u n);
        rested = subst (Rests asked payload) (sym e) (at-end answer refl);
      })

  abbrev Done : Type 0
  Done = JobGives asked payload script s (played asked payload script s)

  settles-at : {k : ℕ} {t : At} (x : Stand) → start_of s.port.stand asked (length payload) ≡ x → Reaches k (standing x) t →
      no_access (asking t.port) ≡ true → k ≤ 72 → at_rest begun ≡ t
  settles-at x e reach a l = ap (λ (y : Stand). at_rest (standing y)) e ∙ rests 72 reach a l

  -- 21; 22 where the chip has to be brought back first
  by_21 : unfit asked (length payload) ≡ true → Done
  unfolding among when◌then◌else◌ start_of port_job_of asks asks_at no_access
  by_21 e =
      declines_so (no_job 0) 21 (unsettled s.port.stand) refl refl refl (settles-at _ (when-true _ _ _ e) there refl (omega arith)) (when-true _ _ _ e)

  by_22 : unfit asked (length payload) ≡ false → unsettled s.port.stand ≡ true → Done
  unfolding among when◌then◌else◌ start_of port_job_of asks asks_at no_access
  by_22 n u =
      declines_so (no_job 0) 22 true refl refl (sym u) (settles-at _ (when-false _ _ _ n ∙ when-true _ _ _ u) there refl (omega arith))
      (when-false _ _ _ n ∙ when-true _ _ _ u)

  module _ (n : unfit asked (length payload) ≡ false) (u : unsettled s.port.stand ≡ false) (sc : sound c ≡ true) where
    abbrev stands_at : Stage → ℕ → Stand
    stands_at x answer = stand x asked 0 0 false answer 0 false

    noted : length (starting c).fetched ≡ 68
    unfolding starting
    noted = length-replicate {A = ℕ} 68 0

    -- I2CCON is read; I2CSTA after it
    reads-control : {k : ℕ} {x : Stand} {t : At} → (when idle_control (reads c 3) then stands_at stage.Status 27 else stands_at stage.Over 22) ≡ x →
        Reaches k (standing x) t → Reaches (suc k) (standing (stands_at stage.Control 27)) t
    unfolding hears hears_at asks asks_at noted_at stage_number starting when◌then◌else◌
    reads-control {k} {x} {t} e reach =
        after_read_lem kept (stands_at stage.Control 27) (starting c) 3 (reads c 3) noted refl refl (as_read c 3 _ (control-read c sc))
        (subst (λ (y : Stand). Reaches k (standing y) t) (sym e) reach)

    reads-status : {k : ℕ} {x : Stand} {t : At} → (when eqb (reads c 0) 0xF8 then stands_at stage.First 27 else stands_at stage.Over 22) ≡ x →
        Reaches k (standing x) t → Reaches (suc k) (standing (stands_at stage.Status 27)) t
    unfolding hears hears_at asks asks_at noted_at stage_number starting when◌then◌else◌
    reads-status {k} {x} {t} e reach =
        after_read_lem kept (stands_at stage.Status 27) (starting c) 0 (reads c 0) noted refl refl (as_read c 0 _ (status-accepted c sc))
        (subst (λ (y : Stand). Reaches k (standing y) t) (sym e) reach)

    starts_so : start_of s.port.stand asked (length payload) ≡ stands_at stage.Control 27
    unfolding start_of
    starts_so = when-false _ _ _ n ∙ when-false _ _ _ u

    -- 22: what the registers tell
    unready : {k : ℕ} → looks_ready c ≡ false → Reaches k (standing (stands_at stage.Control 27)) (over_at asked 22 false) → k ≤ 72 → Done
    unfolding port_job_of asks asks_at no_access among when◌then◌else◌
    unready l reach few =
        declines_so asked 22 false refl refl (sym u) (settles-at _ starts_so reach refl few) (when-false _ _ _ n ∙ when-false _ _ _ u ∙ when-false _ _ _ l)

    module _ (ready : looks_ready c ≡ true) (calm : Calm c) (places : length c.buffer ≡ 68) where
      abbrev first : Progress
      first = starts (begins asked) c

      looks : Looks c sc
      looks = calm-looks c sc calm ready

      -- the first three writes
      writes-first : Drives 3 (standing (stands_at stage.First 27)) (λ made p. holding kept (stand stage.Waiting asked 0 made false 27 p.count false) p) first
      unfolding starts starting
      writes-first = drives (hand kept is_write _ _ _ (beginning asked kept 0 27)) _ _ 0 (starting c) refl (tt, (tt, (tt, tt))) noted

      turn-stays : first.controller.turn ≡ c.turn
      unfolding starts starting does_all does
      turn-stays = ap (λ (d : Controller). d.turn) (begins_to asked c sc looks.turn)

      waits : Waits asked kept first
      waits = record {
        status = 0;
        made = writes-first.last;
        due = false;
        answer = 27;
        due_at = sym (ap (λ (t : Turn). among (kind t) (turns.stopping ∷ [])) turn-stays ∙ apart _ waiting_turns (turns.stopping ∷ []) tt looks.turn);
        answers = λ e. absurd (false≢true e);
      }

      settles-waiting : at_rest begun ≡ waits_at asked kept waits
      unfolding looks_ready asks asks_at no_access waits
      settles-waiting =
          settles-at _ starts_so
          (reads-control (when-true _ _ _ (and_left _ _ ready)) (reads-status (when-true _ _ _ (and_right _ _ ready)) writes-first.reaches)) refl (omega arith)

      good : Good asked payload [] 0 first
      good = good-begun asked payload c sc looks.turn places

      held : Held first
      held = held-begun asked c sc looks.turn looks.sto

      gives : Gives asked (plays (waits_at asked kept waits) first.events script) (run (job_table asked payload) first script)
      gives = plays-run payload (formed asked (length payload) 68 69 0 n) script [] 0 first good held waits

      by_run : Done
      unfolding starts starting started does_all does reported reports port_job_of
      by_run =
          subst (JobGives asked payload script s) (sym (played-from settles-waiting))
          (record {
            same = rw (gives.result, gives.sent, gives.handed) (sym (when-false _ _ _ n ∙ when-false _ _ _ u ∙ when-true _ _ _ ready));
            leaves = began gives.leaves;
            rested = subst (Rests asked payload) (sym settles-waiting) (at_wait n good held waits refl);
          })

  -- whatever the port knows and the registers tell
  pub gives-job : sound c ≡ true → length c.buffer ≡ 68 → (unsettled s.port.stand ≡ false → Calm c) → Done
  unfolding looks_ready
  gives-job sc places calm =
      by_case (unfit asked (length payload)) (unsettled s.port.stand) (idle_control (reads c 3)) (eqb (reads c 0) 0xF8) refl refl refl refl
    where
      by_case : (a b i e : Bool) → unfit asked (length payload) ≡ a → unsettled s.port.stand ≡ b → idle_control (reads c 3) ≡ i →
          eqb (reads c 0) 0xF8 ≡ e → Done
      by_case true b i e n u x y = by_21 n
      by_case false true i e n u x y = by_22 n u
      by_case false false false e n u x y =
          unready n u sc (and_no_left _ _ x) (reads-control n u sc (when-false _ _ _ x) there) (omega arith)
      by_case false false true false n u x y =
          unready n u sc (and_no_right _ _ y) (reads-control n u sc (when-true _ _ _ x) (reads-status n u sc (when-false _ _ _ y) there)) (omega arith)
      by_case false false true true n u x y = by_run n u sc (and-true _ _ x y) (calm u) places
