-- A look at which nothing has come leaves port and controller as they were, at every wait of a job. Assumes nothing.
use mathlib.Core.Bool.{false}
use mathlib.Core.List.{List, [], ◌∷◌}
use mathlib.Core.Path.{◌≡◌, sym, ap, subst, ◌∙◌}
use Prim.Native.Nat.{ℕ}
use native.Mathlib.Omega.{arith}
use borrow.Author.Tests.{eqb-true}
use lib.ListN.{length}
use Rattle.controller.specs.Event.{event_of}
use Rattle.driver.specs.Run.{taking}
use Rattle.port.specs.Hear.{asks_at, asks}
use Rattle.port.specs.Port.{asking}
use Rattle.port.specs.declared.ask.Ask.TheVariants.{Wait, Over}
use Rattle.port_job.proofs.Between.{Between, recovered-between, item_between}
use Rattle.port_job.proofs.OneJob.{Rests, at-end, at_wait, gives-job}
use Rattle.port_job.proofs.Pair.{Waits, waits_at, Woken, waiting, over, looks-again, pair}
use Rattle.port_job.proofs.PortLines.{kept_of}
use Rattle.port_job.specs.Items.{Item, job, recovery, event}
use Rattle.port_job.specs.Looks.{AtEveryWait, InJob, InEach, LooksAreFree}
use Rattle.port_job.specs.OnModel.{At}
use Rattle.runs.proofs.Events.{lasting}
use Rattle.runs.proofs.FlagsHeld.{Held}
use Rattle.runs.proofs.Invariant.{Good}
use Rattle.runs.proofs.Lines.{job_lines}
use Rattle.service.proofs.Formed.{Formed, formed}
use Rattle.service.specs.JobTable.{job_table}
use Rattle.service.specs.Serve.{serve}
use Rattle.service.specs.declared.job.Job.{Job}
use Rattle.service.specs.declared.progress.Progress.{Progress}

-- a port that is over waits no more
over-free : (s : At) (answer count : ℕ) (script : List ℕ) → asking s.port ≡ Over answer count → AtEveryWait s script
over-free s answer count script e = none script
  where
    never : asking s.port ≡ Wait → ⊥
    never w = let both = sym e ∙ w in let z : ◌≡◌ {A = ℕ} 0 1 = cc in omega arith

    none : (script : List ℕ) → AtEveryWait s script
    none [] = λ w. absurd (never w)
    none (number ∷ []) = λ w. absurd (never w)
    none (number ∷ argument ∷ rest) = (λ w. absurd (never w), λ w _. absurd (never w))

module _ {room places : ℕ} {asked : Job} (payload : List ℕ) (form : Formed asked (length payload) room places) where
  abbrev kept : List ℕ
  kept = kept_of asked payload

  -- from any wait on
  abbrev From : List ℕ → Progress → Type 0
  From script p = (w : Waits asked kept p) → AtEveryWait (waits_at asked kept w) script

  after-pair : (s : At) (q : Progress) (rest : List ℕ) → Woken asked kept s q → (q.over ≡ false → Held q → From rest q) → AtEveryWait s rest
  unfolding asks asks_at
  after-pair s q rest (waiting w e l h) later = subst (λ (u : At). AtEveryWait u rest) (sym e) (later l h w)
  after-pair s q rest (over e) later = over-free s _ _ rest (ap (λ (u : At). asking u.port) e.same)

  waits-free : (script carried : List ℕ) (sent : ℕ) (p : Progress) → Good asked payload carried sent p → Held p → From script p
  waits-free [] carried sent p g h w = λ _. looks-again g h w
  waits-free (number ∷ []) carried sent p g h w = λ _. looks-again g h w
  waits-free (number ∷ argument ∷ rest) carried sent p g h w =
      let table = job_table asked payload in
      let q = serve table number (taking p (event_of p.controller number argument).next) in (
        (λ _. looks-again g h w),
        (λ _ e. after-pair _ q rest (pair g h w form number argument (eqb-true _ 0 e))
            (λ l. waits-free rest _ _ q (lasting table payload form (job_lines asked payload) g number argument e l))),
      )

-- a job, from where it has come to rest when it has begun
job-free : (asked : Job) (payload script : List ℕ) (s : At) → Rests asked payload s → AtEveryWait s script
job-free asked payload script s (at-end answer e) = over-free s answer 0 script e
job-free asked payload script s (at_wait n g h w e) =
    subst (λ (u : At). AtEveryWait u script) (sym e) (waits-free payload (formed asked (length payload) 68 69 0 n) script [] 0 _ g h w)

in_job : (x : Item) (s : At) → Between s → InJob x s
in_job (job asked payload script) s b =
    job-free asked payload script _ (gives-job asked payload script s b.still-sound b.places b.calm).rested
in_job (recovery settings) s b = tt
in_job (event number argument) s b = tt

in_each : (items : List Item) (s : At) → Between s → InEach items s
in_each [] s b = tt
in_each (x ∷ items) s b = (in_job x s b, in_each items _ (item_between x s b))

pub looks_are_free : LooksAreFree
looks_are_free settings items s sc l b = (tt, in_each items _ (recovered-between settings s sc l b))
