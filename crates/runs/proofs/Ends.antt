-- The events that end a job: own STOP, the reset pin, lost arbitration and faults. Assumes nothing.
use mathlib.Core.Bool.{false}
use mathlib.Core.List.{List, [], ◌∷◌}
use mathlib.Core.Path.{◌≡◌, refl, sym, subst}
use Prim.Native.Nat.{ℕ}
use native.Mathlib.Omega.{arith}
use lib.Dec.{eqb}
use Rattle.address.specs.declared.matching.Match.{Match}
use Rattle.answer.specs.declared.ending.Ending.TheVariants as ending
use Rattle.control.specs.Turn.{stopping}
use Rattle.control.specs.declared.turn.Turn.TheVariants as turn
use Rattle.controller.specs.Condition.{own_stop, matches, outbid, address_lost, data_lost, data_held, clock_held}
use Rattle.controller.specs.Reply.{Outcome, accepts, waits_for}
use Rattle.controller.specs.Reset.{reset}
use Rattle.controller.specs.declared.record.Controller.{Controller}
use Rattle.driver.specs.Run.{taking}
use Rattle.notation.proofs.Cases.{and_left, split}
use Rattle.notation.specs.Choice.{when◌then◌else◌}
use Rattle.runs.proofs.Invariant.{In, Good, Stepped, ended}
use Rattle.runs.proofs.Lines.{Line, lost_work, fault_work}
use Rattle.runs.proofs.Step.{KeepsOrEnds, refusing, hosting, broken, not_38h, no_match}
use Rattle.service.specs.Act.{does_all, follows, performs}
use Rattle.service.specs.Serve.{Table, serve}
use Rattle.service.specs.declared.job.Job.{Job}
use Rattle.service.specs.declared.progress.Progress.{Progress}

module _ {job : Job} {payload carried : List ℕ} {sent : ℕ} {p : Progress} (g : Good job payload carried sent p) where
  -- the work at 38h and at a fault
  pub at-lost : (number argument : ℕ) → eqb number 6 ≡ false → (q : Progress) →
      Stepped job payload carried sent number argument (performs lost_work q)
  unfolding performs
  at-lost number argument n q = broken g number argument ending.Lost (λ e. omega (arith, e)) n (does_all lost_work.acts q)

  pub at-fault : (number argument : ℕ) → eqb number 6 ≡ false → (q : Progress) →
      Stepped job payload carried sent number argument (performs fault_work q)
  unfolding performs
  at-fault number argument n q = broken g number argument ending.Fault (λ e. omega (arith, e)) n (does_all fault_work.acts q)

module _ (table : Table) {job : Job} {payload carried : List ℕ} {sent : ℕ} {p : Progress} (g : Good job payload carried sent p) where
  abbrev S : ℕ → ℕ → Outcome → Type 0
  S number argument o = KeepsOrEnds table job payload carried sent p number argument o

  -- 14: the reset
  pub reset_pin_lem : (argument : ℕ) → S 14 argument (accepts (reset p.controller) 0)
  unfolding accepts serve follows when◌then◌else◌
  reset_pin_lem argument =
      record { step = λ s r. broken g 14 argument ending.Reset (λ e. omega (arith, e)) refl (taking p (reset p.controller)) }

  -- 4: own STOP, the one event that finishes a job
  finishing : (argument : ℕ) (d : Controller) → In p (stopping ∷ []) → S 4 argument (waits_for d turn.Free 0)
  unfolding waits_for accepts serve follows taking when◌then◌else◌
  finishing argument d t = record { step = λ s r. ended refl (λ z rd. (refl, g.stopped t z rd, g.whole.notes)) g.bound }

  pub own_stop_lem : (argument : ℕ) → S 4 argument (own_stop p.controller)
  unfolding own_stop
  own_stop_lem argument = split (S 4 argument) _ _ _ (finishing argument _) (λ t. refusing table g 4 argument 7)

  -- 9: lost in a data byte
  pub data_lost_lem : Line table 0x38 lost_work → (argument : ℕ) → S 9 argument (data_lost p.controller)
  unfolding data_lost
  data_lost_lem line argument =
      split (S 9 argument) _ _ _ (λ t. hosting table g 9 argument _ 0x38 0 line refl refl refl (λ s. at-lost g 9 argument refl _))
      (λ t. refusing table g 9 argument 7)

  -- 8: lost to another address byte
  outbid-step : Line table 0x38 lost_work → (argument : ℕ) → S 8 argument (outbid p.controller (matches p.controller argument))
  unfolding outbid
  outbid-step line argument =
      subst (λ (m : Match). S 8 argument (outbid p.controller m)) (sym (no_match g argument))
      (hosting table g 8 argument _ 0x38 1 line refl refl refl (λ s. at-lost g 8 argument refl _))

  pub address-lost : Line table 0x38 lost_work → (argument : ℕ) → S 8 argument (address_lost p.controller argument)
  unfolding address_lost
  address-lost line argument = split (S 8 argument) _ _ _ (λ t. outbid-step line argument) (λ t. refusing table g 8 argument 7)

  -- 11: SDA held
  pub data_held_lem : Line table 0x70 fault_work → (argument : ℕ) → S 11 argument (data_held p.controller)
  unfolding data_held
  data_held_lem line argument =
      split (S 11 argument) _ _ _ (λ t. hosting table g 11 argument _ 0x70 0 line refl refl refl (λ s. at-fault g 11 argument refl _))
      (λ t. refusing table g 11 argument 7)

  -- 12: SCL held
  pub clock_held_lem : Line table 0x78 fault_work → (argument : ℕ) → S 12 argument (clock_held p.controller)
  unfolding clock_held
  clock_held_lem line argument =
      split (S 12 argument) _ _ _ (λ l. absurd (not_38h g (and_left _ _ l)))
      (λ l. split (S 12 argument) _ _ _ (λ t. refusing table g 12 argument 7)
      (λ t. split (S 12 argument) _ _ _ (λ u. hosting table g 12 argument _ 0x78 0 line refl refl refl (λ s. at-fault g 12 argument refl _))
      (λ u. refusing table g 12 argument 7)))
