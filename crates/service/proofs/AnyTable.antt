-- What the run over pairs needs of a service, whatever its table: its work takes no pair, and what it does after each. Assumes nothing.
use mathlib.Core.Bool.{Bool, true, false}
use mathlib.Core.List.{List, [], ◌∷◌}
use mathlib.Core.Path.{◌≡◌, refl, ap, ◌∙◌}
use Prim.Native.Nat.{ℕ, zero, suc, ◌+◌}
use lib.Dec.{eqb}
use Rattle.answer.specs.declared.ending.Ending.TheVariants.{Reset}
use Rattle.control.specs.Turn.{status_of}
use Rattle.controller.specs.Record.{sound}
use Rattle.laws.proofs.Status.{status-reads}
use Rattle.notation.proofs.Cases.{when-true, when-false}
use Rattle.notation.specs.Choice.{when◌then◌else◌}
use Rattle.service.specs.Act.{
  Act,
  writes,
  reads_data,
  reads_all,
  reads_count,
  counts,
  Then,
  goes_on,
  awaits,
  ends,
  finishes,
  reads,
  fetch_one,
  fetch,
  read_times,
  does,
  does_all,
  follows,
  performs,
}
use Rattle.service.specs.Serve.{Table, serve}
use Rattle.service.specs.declared.progress.Progress.{Progress}

-- no act takes a pair or gives an answer: the number of pairs and the answer noted stay
pub record PairsAndAnswerKept (p q : Progress) : Type 0 where
  pub events : q.events ≡ p.events
  pub ending : q.ending ≡ p.ending

same : {p q : Progress} → q.events ≡ p.events → q.ending ≡ p.ending → PairsAndAnswerKept p q
same e f = record { events = e; ending = f }

in_turn : {p q r : Progress} → PairsAndAnswerKept p q → PairsAndAnswerKept q r → PairsAndAnswerKept p r
in_turn f g = record { events = g.events ∙ f.events; ending = g.ending ∙ f.ending }

fetch-leaves : (more i : ℕ) (p : Progress) → PairsAndAnswerKept p (fetch more i p)
unfolding fetch fetch_one
fetch-leaves zero i p = same refl refl
fetch-leaves (suc more) i p = in_turn (same refl refl) (fetch-leaves more (i + 1) (fetch_one i p))

does-leaves : (x : Act) (p : Progress) → PairsAndAnswerKept p (does x p)
unfolding does fetch_one
does-leaves (writes register value) p = same refl refl
does-leaves (reads_data at) p = same refl refl
does-leaves reads_all p = fetch-leaves (read_times p.count) 0 p
does-leaves reads_count p = same refl refl
does-leaves (counts count) p = same refl refl

pub acts_leave : (xs : List Act) (p : Progress) → PairsAndAnswerKept p (does_all xs p)
unfolding does_all
acts_leave [] p = same refl refl
acts_leave (x ∷ xs) p = in_turn (does-leaves x p) (acts_leave xs (does x p))

follows-events : (t : Then) (p : Progress) → (follows t p).events ≡ p.events
unfolding follows
follows-events goes_on p = refl
follows-events (awaits ending) p = refl
follows-events (ends ending) p = refl
follows-events finishes p = refl

either : (n : ℕ) (b : Bool) (q r : Progress) → q.events ≡ n → r.events ≡ n → (when b then q else r).events ≡ n
unfolding when◌then◌else◌
either n true q r e f = e
either n false q r e f = f

pub serve-events : (table : Table) (event : ℕ) (p : Progress) → (serve table event p).events ≡ p.events
unfolding serve follows performs
serve-events table event p =
    let w = table (reads p.controller 0) p.count in
    either _ _ _ _ refl (either _ _ _ _ refl (either _ _ _ _ refl (follows-events w.after _ ∙ (acts_leave w.acts p).events)))

-- Of a sound record: event 14 and own STOP end the job, at F8h the driver waits, and at any other status it goes by the table.
module _ (table : Table) (event : ℕ) (p : Progress) where
  pub at-reset : event ≡ 14 → serve table event p ≡ follows (ends Reset) p
  unfolding serve when◌then◌else◌
  at-reset e = rw e

  pub at_stop : event ≡ 4 → serve table event p ≡ follows finishes p
  unfolding serve when◌then◌else◌
  at_stop e = rw e

  module _ (not-reset : eqb event 14 ≡ false) (not_stop : eqb event 4 ≡ false) (s : sound p.controller ≡ true) where
    by_status : serve table event p ≡
        (when eqb (status_of p.controller.turn) 0xF8 then p else performs (table (status_of p.controller.turn) p.count) p)
    unfolding serve reads
    by_status =
        when-false _ _ _ not-reset ∙ when-false _ _ _ not_stop
        ∙ ap (λ (status : ℕ). when eqb status 0xF8 then p else performs (table status p.count) p) (status-reads p.controller s)

    pub at-idle : eqb (status_of p.controller.turn) 0xF8 ≡ true → serve table event p ≡ p
    at-idle e = by_status ∙ when-true _ _ _ e

    pub at-status : eqb (status_of p.controller.turn) 0xF8 ≡ false →
        serve table event p ≡ performs (table (status_of p.controller.turn) p.count) p
    at-status e = by_status ∙ when-false _ _ _ e
