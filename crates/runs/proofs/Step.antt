-- One event of a job, by any table: what the lemmas about each event are made of. Assumes nothing.
use mathlib.Core.Bool.{Bool, true, false, false≢true}
use mathlib.Core.List.{List, [], ◌∷◌, ◌++◌}
use mathlib.Core.Path.{◌≡◌, refl, sym, ap, subst, ◌∙◌}
use Prim.Native.Nat.{ℕ, suc, ◌≤◌}
use native.Mathlib.Omega.{arith}
use lib.Dec.{T, eqb}
use Rattle.address.specs.Matching.{match_of}
use Rattle.address.specs.declared.matching.Match.TheVariants.{Nothing}
use Rattle.answer.specs.Ending.{number_of}
use Rattle.answer.specs.declared.ending.Ending.{Ending}
use Rattle.control.proofs.Turning.{idle_not_38h}
use Rattle.control.specs.Turn.{host, status_of, at38h}
use Rattle.control.specs.declared.turn.Edge.TheVariants.{Stop}
use Rattle.controller.specs.Condition.{matches}
use Rattle.controller.specs.Record.{sound}
use Rattle.controller.specs.Reply.{Outcome, refuses, accepts, with_status, interrupts_at, gives}
use Rattle.controller.specs.Setters.{with_hand}
use Rattle.controller.specs.declared.record.Controller.{Controller}
use Rattle.driver.specs.Run.{taking}
use Rattle.laws.proofs.Addresses.{silent-without-aa}
use Rattle.notation.proofs.Among.{has, every, same, apart, clash}
use Rattle.runs.proofs.Invariant.{In, job_turns, early_turns, limit, carried_after, sent_after, Good, Stepped, ended, going}
use Rattle.runs.proofs.Lines.{Line}
use Rattle.service.proofs.AnyTable.{at-idle, at-status}
use Rattle.service.specs.Act.{ends, Work, follows, performs}
use Rattle.service.specs.Serve.{Table, serve}
use Rattle.service.specs.declared.job.Job.{Job}
use Rattle.service.specs.declared.progress.Progress.{Progress}

-- an accepted event keeps the invariant or ends the job
pub record KeepsOrEnds (table : Table) (job : Job) (payload carried : List ℕ) (sent : ℕ) (p : Progress) (number argument : ℕ) (o : Outcome) : Type 0 where
  pub step : sound o.next ≡ true → o.refused ≡ 0 →
      Stepped job payload carried sent number argument (serve table number (taking p o.next))

-- the record after an event that gave a status
abbrev pub hosted : Controller → ℕ → Controller
hosted c status = with_hand (with_status c status Stop) 0

module _ (table : Table) {job : Job} {payload carried : List ℕ} {sent : ℕ} {p : Progress} (g : Good job payload carried sent p) where
  abbrev S : ℕ → ℕ → Outcome → Type 0
  S number argument o = KeepsOrEnds table job payload carried sent p number argument o

  pub refusing : (number argument k : ℕ) → S number argument (refuses p.controller (suc k))
  unfolding refuses
  refusing number argument k = record { step = λ s r. absurd (never k r) }
    where
      never : (k : ℕ) → ◌≡◌ {A = ℕ} (suc k) 0 → ⊥
      never k e = omega (arith, e)

  -- an event that gives a status: the table's work there is done
  pub hosting : (number argument : ℕ) (c : Controller) (status value : ℕ) {w : Work} → Line table status w →
      eqb status 0xF8 ≡ false → eqb number 14 ≡ false → eqb number 4 ≡ false →
      (sound (hosted c status) ≡ true → Stepped job payload carried sent number argument (performs w (taking p (hosted c status)))) →
      S number argument (gives c status value)
  unfolding interrupts_at accepts status_of taking
  hosting number argument c status value line n h k f =
      record {
        step = λ s r.
            subst (Stepped job payload carried sent number argument)
            (sym (at-status table number (taking p (hosted c status)) h k s n
            ∙ ap (λ (w : Work). performs w (taking p (hosted c status))) (line p.count))) (f s);
      }

  -- an event that leaves the status at F8h: the driver waits
  pub idling : (number argument : ℕ) (d : Controller) (value : ℕ) → eqb number 14 ≡ false → eqb number 4 ≡ false → status_of d.turn ≡ 0xF8 →
      (sound d ≡ true → Good job payload (carried_after number argument carried) (sent_after number sent) (taking p d)) →
      S number argument (accepts d value)
  unfolding accepts taking
  idling number argument d value h k t f =
      record {
        step = λ s r.
            subst (Stepped job payload carried sent number argument)
            (sym (at-idle table number (taking p d) h k s (ap (λ (x : ℕ). eqb x 0xF8) t))) (going k (f s));
      }

module _ {job : Job} {payload carried : List ℕ} {sent : ℕ} {p : Progress} (g : Good job payload carried sent p) where
  -- a fault, lost arbitration, a reset: the job is over, and not as done
  pub broken : (number argument : ℕ) (e : Ending) → (number_of e ≡ 0 → ⊥) → eqb number 6 ≡ false → (q : Progress) →
      Stepped job payload carried sent number argument (follows (ends e) q)
  unfolding follows
  broken number argument e never n q =
      ended refl (λ z. absurd (never z))
      (subst (λ (b : Bool). elim b [ true ↦ suc sent | false ↦ sent ] ≤ limit job.direction job.n) (sym n) g.bound)

  -- the turn is one that a job waits in
  pub here : (ls : List ℕ) → T (every (λ k. same (has ls k) false) job_turns) → In p ls → ⊥
  here ls t e = clash _ job_turns ls t g.turn e

  -- so it is not Host, at 38h or any other status
  pub not_38h : at38h p.controller.turn ≡ true → ⊥
  not_38h e = absurd (false≢true (sym (idle_not_38h _ (apart _ job_turns (host ∷ []) tt g.turn)) ∙ e))

  -- events but 6 and 7 send and receive nothing
  pub keep : (number argument : ℕ) (q : Progress) → eqb number 7 ≡ false → eqb number 6 ≡ false → Good job payload carried sent q →
      Good job payload (carried_after number argument carried) (sent_after number sent) q
  keep number argument q m n h =
      subst (λ (b : Bool). Good job payload (elim b [ true ↦ carried ++ (argument ∷ []) | false ↦ carried ]) (sent_after number sent) q) (sym m)
      (subst (λ (b : Bool). Good job payload carried (elim b [ true ↦ suc sent | false ↦ sent ]) q) (sym n) h)

  -- before the address byte is answered nothing was sent or received
  pub early-good : (q : Progress) → In p early_turns → Good job payload [] 0 q → Good job payload carried sent q
  early-good q w h =
      let e = g.early w in
      subst (λ (l : List ℕ). Good job payload l sent q) (sym e.0) (subst (λ (n : ℕ). Good job payload [] n q) (sym e.1) h)

  -- with AA 0 no address byte matches
  pub no_match : (byte : ℕ) → matches p.controller byte ≡ Nothing
  no_match byte =
      ap (λ (b : Bool). (match_of p.controller.registers.own b (record { 0 = byte })).call) g.aa ∙ silent-without-aa _ (record { 0 = byte })

pub regood : {job : Job} {payload l l' : List ℕ} {n n' : ℕ} {q : Progress} → l ≡ l' → n ≡ n' → Good job payload l n q →
    Good job payload l' n' q
regood {job} {payload} {l} {l'} {n} {n'} {q} e f h =
    subst (λ (k : ℕ). Good job payload l' k q) f (subst (λ (m : List ℕ). Good job payload m n q) e h)
