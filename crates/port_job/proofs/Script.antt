-- The run over a script: the port's is the job's. Assumes nothing.
use mathlib.Core.Bool.{Bool, true, false, not, true≢false, false≢true}
use mathlib.Core.List.{List, [], ◌∷◌}
use mathlib.Core.Path.{◌≡◌, refl, sym, ap, subst, ◌∙◌}
use Prim.Native.Nat.{ℕ, ◌+◌, ◌≤◌}
use borrow.Author.Tests.{eqb-true, le-ltb}
use lib.Dec.{eqb}
use lib.ListN.{length, take}
use Rattle.address.specs.Number.{bit_of}
use Rattle.answer.specs.Ending.{number_of}
use Rattle.control.specs.Turn.{free, kind}
use Rattle.controller.specs.Event.{event_of}
use Rattle.controller.specs.Record.{sound}
use Rattle.driver.specs.Run.{Run, closes, breaks, sending, taking, run, hands_up}
use Rattle.notation.proofs.Among.{within}
use Rattle.notation.proofs.Cases.{when-true, when-false, and_no_right}
use Rattle.notation.specs.Choice.{when◌then◌else◌, ◌and◌, ◌or◌, among}
use Rattle.port.specs.Begin.{unsettled, give_up_of}
use Rattle.port.specs.HandUp.{Taken, nothing, take_done, take_of}
use Rattle.port.specs.Hear.{asks_at, asks}
use Rattle.port.specs.Port.{asking, given_up, taken}
use Rattle.port.specs.Stage.{stage_number}
use Rattle.port.specs.Stand.{stand}
use Rattle.port.specs.declared.ask.Ask.TheVariants.{Over}
use Rattle.port.specs.declared.stage.Stage.TheVariants as stage
use Rattle.port_job.proofs.Pair.{Waits, waits_at, Ends, Woken, waiting, over, pair}
use Rattle.port_job.proofs.PortLines.{kept_of}
use Rattle.port_job.proofs.Ready.{Freed, Left, elsewhere}
use Rattle.port_job.specs.OnModel.{At, Played, ends_so, breaks_so, sending_so, unless_over, plays, woken}
use Rattle.runs.proofs.Events.{lasting}
use Rattle.runs.proofs.FlagsHeld.{Held}
use Rattle.runs.proofs.Invariant.{waiting_turns, Good}
use Rattle.runs.proofs.Lines.{job_lines}
use Rattle.service.proofs.AnyTable.{serve-events}
use Rattle.service.proofs.Formed.{Formed}
use Rattle.service.specs.JobTable.{job_table}
use Rattle.service.specs.Request.{ready}
use Rattle.service.specs.Serve.{Table, serve}
use Rattle.service.specs.declared.job.Job.{Job}
use Rattle.service.specs.declared.progress.Progress.{Progress}

-- how a job that began leaves port and controller
pub record Leaves (r : Played) : Type 0 where
  pub still-sound : sound r.result.next ≡ true
  pub places : length r.result.next.buffer ≡ 68
  pub ended : unsettled r.port.stand ≡ false → Left r.result.next
  pub given_up_lem : unsettled r.port.stand ≡ true → ready r.result.next ≡ false
  pub finished : among r.result.answer (0 ∷ 23 ∷ 24 ∷ []) ≡ true → (unsettled r.port.stand ≡ false) × Freed r.result.next

-- it gives what the job's run gives
pub record Gives (job : Job) (r : Played) (u : Run) : Type 0 where
  pub result : r.result ≡ u.result
  pub sent : r.sent ≡ u.sent
  pub handed : (taken r.port 68).handed ≡ hands_up job u.result.answer u.fetched
  pub leaves : Leaves r

-- while a job lasts the model is not ready
lasting-unready : {job : Job} {payload carried : List ℕ} {sent : ℕ} {p : Progress} → Good job payload carried sent p → Held p → ready p.controller ≡ false
unfolding ready
lasting-unready {p = p} g h = by_turn (among (kind p.controller.turn) (free ∷ [])) refl
  where
    by_turn : (b : Bool) → among (kind p.controller.turn) (free ∷ []) ≡ b → ready p.controller ≡ false
    by_turn true e = and_no_right _ _ (and_no_right _ _ (and_no_right _ _ (ap not (h.sta ∙ within _ (free ∷ []) waiting_turns tt e))))
    by_turn false e = elsewhere p.controller g.whole.sound e

-- what is handed up
done-or-not : (done reads : Bool) (answer : ℕ) (bytes : List ℕ) →
    (when not done then nothing answer else when not reads or false then nothing 21 else record { answer = 0; handed = bytes }).handed ≡
    (when done and reads then bytes else [])
unfolding when◌then◌else◌ ◌or◌ ◌and◌
done-or-not true true answer bytes = refl
done-or-not true false answer bytes = refl
done-or-not false reads answer bytes = refl

hands_up_lem : (job : Job) (status made answer count : ℕ) (fetched : List ℕ) → job.n ≤ 68 →
    (take_of (stand stage.Over job status made false answer count false) fetched 68).handed ≡ hands_up job answer fetched
unfolding take_of take_done hands_up stage_number
hands_up_lem job status made answer count fetched l =
    ap (λ (t : Taken). t.handed) (when-false _ _ _ refl)
    ∙ rw (le-ltb 68 job.n l) (done-or-not (eqb answer 0) (eqb (bit_of job.direction) 1) answer (take job.n fetched))

-- the port is over: later pairs aren't looked at
pub over-plays : (s : At) (answer count events : ℕ) (script : List ℕ) → asking s.port ≡ Over answer count →
    plays s events script ≡ ends_so s answer count events
unfolding plays unless_over
over-plays s answer count events [] e = rw e
over-plays s answer count events (event ∷ []) e = rw e
over-plays s answer count events (event ∷ argument ∷ rest) e = rw e

module _ {room places : ℕ} {job : Job} (payload : List ℕ) (form : Formed job (length payload) room places) where
  abbrev kept : List ℕ
  kept = kept_of job payload

  abbrev table : Table
  table = job_table job payload

  ends_so_lem : (s : At) (q : Progress) (script : List ℕ) → Ends job kept s q → Gives job (plays s q.events script) (closes q)
  unfolding ends_so closes unsettled stage_number ◌or◌ asks asks_at
  ends_so_lem s q script e =
      subst (λ (r : Played). Gives job r (closes q))
      (sym (ap (λ (u : At). plays u q.events script) e.same ∙ over-plays _ (number_of q.ending) q.count q.events script refl))
      (record {
        result = rw e.beside;
        sent = refl;
        handed = hands_up_lem job e.status e.made (number_of q.ending) q.count q.fetched form.high;
        leaves = record {
          still-sound = e.still-sound;
          places = e.places;
          ended = λ _. e.left;
          given_up_lem = λ z. absurd (false≢true z);
          finished = λ z. (refl, e.finished z);
        };
      })

  module _ {carried : List ℕ} {sent : ℕ} {p : Progress} (g : Good job payload carried sent p) (h : Held p) (w : Waits job kept p) where
    -- nothing more comes, or what came was refused
    breaks_so_lem : (answer refused : ℕ) → eqb answer 0 ≡ false → among answer (0 ∷ 23 ∷ 24 ∷ []) ≡ false →
        Gives job (breaks_so (waits_at job kept w) answer refused p.events) (breaks p answer refused)
    unfolding breaks_so breaks given_up give_up_of take_of hands_up unsettled stage_number when◌then◌else◌ ◌or◌ ◌and◌
    breaks_so_lem answer refused z n =
        record {
          result = refl;
          sent = refl;
          handed = rw z;
          leaves = record {
            still-sound = g.whole.sound;
            places = g.whole.places;
            ended = λ e. absurd (true≢false e);
            given_up_lem = λ _. lasting-unready g h;
            finished = λ e. absurd (true≢false (sym e ∙ n));
          };
        }

  -- from any wait on, over these pairs
  abbrev Rest : List ℕ → Type 0
  Rest script = (carried : List ℕ) (sent : ℕ) (p : Progress) → Good job payload carried sent p → Held p → (w : Waits job kept p) →
      Gives job (plays (waits_at job kept w) p.events script) (run table p script)

  sends_so : (event value : ℕ) {r : Played} {u : Run} → Gives job r u → Gives job (sending_so event value r) (sending event value u)
  unfolding sending_so sending
  sends_so event value {r} {u} g =
      record {
        result = g.result;
        sent = ap (λ (xs : List ℕ). when eqb event 6 then value ∷ xs else xs) g.sent;
        handed = g.handed;
        leaves = record {
          still-sound = g.leaves.still-sound;
          places = g.leaves.places;
          ended = g.leaves.ended;
          given_up_lem = g.leaves.given_up_lem;
          finished = g.leaves.finished;
        };
      }

  -- after the work of a pair
  goes_on_lem : (s : At) (q : Progress) (rest : List ℕ) (events : ℕ) → q.events ≡ events → Woken job kept s q →
      (q.over ≡ false → Held q → (w : Waits job kept q) → Gives job (plays (waits_at job kept w) q.events rest) (run table q rest)) →
      Gives job (plays s events rest) (when q.over then closes q else run table q rest)
  goes_on_lem s q rest events n (waiting w e l h) later =
      subst (λ (u : Run). Gives job (plays s events rest) u) (sym (when-false _ _ _ l))
      (subst (λ (k : ℕ). Gives job (plays s k rest) (run table q rest)) n
      (subst (λ (u : At). Gives job (plays u q.events rest) (run table q rest)) (sym e) (later l h w)))
  goes_on_lem s q rest events n (over e) later =
      subst (λ (u : Run). Gives job (plays s events rest) u) (sym (when-true _ _ _ e.over))
      (subst (λ (k : ℕ). Gives job (plays s k rest) (closes q)) n (ends_so_lem s q rest e))

  either_way : (b : Bool) (x y : Played) (u v : Run) → (b ≡ true → Gives job x u) → (b ≡ false → Gives job y v) →
      Gives job (when b then x else y) (when b then u else v)
  unfolding when◌then◌else◌
  either_way true x y u v f k = f refl
  either_way false x y u v f k = k refl

  pub plays-run : (script : List ℕ) → Rest script
  unfolding plays run unless_over asks asks_at taking among when◌then◌else◌
  plays-run [] carried sent p g h w = breaks_so_lem g h w 27 0 refl refl
  plays-run (event ∷ []) carried sent p g h w = breaks_so_lem g h w 27 0 refl refl
  plays-run (event ∷ argument ∷ rest) carried sent p g h w =
      let o = event_of p.controller event argument in
      let q = serve table event (taking p o.next) in
      either_way (eqb o.refused 0) _ _ _ _
      (λ e. sends_so event o.value
      (goes_on_lem (woken (waits_at job kept w).port o.next) q rest (p.events + 1) (serve-events table event (taking p o.next))
      (pair g h w form event argument (eqb-true o.refused 0 e))
      (λ l. plays-run rest _ _ q (lasting table payload form (job_lines job payload) g event argument e l))))
      (λ _. breaks_so_lem g h w 28 o.refused refl refl)
