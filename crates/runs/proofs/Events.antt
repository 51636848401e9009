-- Every event keeps the invariant of a job, or ends the job, by any table that has a job's lines. Assumes nothing.
use mathlib.Core.Bool.{true, false, true≢false}
use mathlib.Core.List.{List, [], ◌∷◌}
use mathlib.Core.Path.{◌≡◌, refl, sym, subst, ◌∙◌}
use Prim.Native.Nat.{ℕ}
use borrow.Author.Tests.{eqb-true}
use lib.Dec.{eqb}
use lib.ListN.{length}
use Rattle.address.specs.declared.number.Direction.{Direction}
use Rattle.control.specs.Turn.{slave_send}
use Rattle.controller.specs.Event.{event_sound, event_of}
use Rattle.controller.specs.Record.{place}
use Rattle.controller.specs.Reply.{Outcome, gives}
use Rattle.controller.specs.Transfer.{address_status, byte_out}
use Rattle.driver.specs.Run.{taking}
use Rattle.laws.proofs.Soundness.{event-stays-sound}
use Rattle.notation.proofs.Cases.{split}
use Rattle.runs.proofs.Ends.{reset_pin_lem, own_stop_lem, data_lost_lem, address-lost, data_held_lem, clock_held_lem}
use Rattle.runs.proofs.Invariant.{carried_after, sent_after, Good, Stepped, ended, going}
use Rattle.runs.proofs.Lines.{JobLines}
use Rattle.runs.proofs.Receiving.{byte_in_lem}
use Rattle.runs.proofs.Sending.{direction, address_out, data_out_lem}
use Rattle.runs.proofs.Step.{KeepsOrEnds, refusing, here}
use Rattle.runs.proofs.Waiting.{other_start_lem, other_stop_lem, address-byte, illegal_edge_lem, own_start_lem, idle_time}
use Rattle.service.proofs.Formed.{Formed}
use Rattle.service.specs.Serve.{Table, serve}
use Rattle.service.specs.declared.job.Job.{Job}
use Rattle.service.specs.declared.progress.Progress.{Progress}

module _ (table : Table) {room places : ℕ} {job : Job} (payload : List ℕ) (form : Formed job (length payload) room places)
    (lines : JobLines table job payload) {carried : List ℕ} {sent : ℕ} {p : Progress} (g : Good job payload carried sent p) where
  abbrev S : ℕ → ℕ → Outcome → Type 0
  S number argument o = KeepsOrEnds table job payload carried sent p number argument o

  -- 6: a byte out
  byte_out_lem : (argument : ℕ) → S 6 argument (byte_out p.controller argument)
  unfolding byte_out
  byte_out_lem argument =
      split (S 6 argument) _ _ _
      (λ t. subst (λ (d : Direction). S 6 argument (gives p.controller (address_status d argument) (place p.controller 0)))
      (sym (direction g t))
      (address_out table payload form g lines.at_18 lines.at_40 lines.at_20 lines.at_48 argument _ t job.direction refl))
      (λ _. split (S 6 argument) _ _ _ (λ t. data_out_lem table payload form g t lines.at_30 lines.at_28 argument)
      (λ _. split (S 6 argument) _ _ _ (λ t. absurd (here g (slave_send ∷ []) tt t)) (λ _. refusing table g 6 argument 7)))

  numbered : (number argument k : ℕ) (o : Outcome) → eqb number k ≡ true → S k argument o → S number argument o
  numbered number argument k o e h = subst (λ (m : ℕ). S m argument o) (sym (eqb-true number k e)) h

  event-sound : (number argument : ℕ) → S number argument (event_sound p.controller number argument)
  unfolding event_sound
  event-sound number argument =
      let P = S number argument in
      split P _ _ _ (λ e. numbered number argument 1 _ e (own_start_lem table g lines.at_08 argument))
      (λ _. split P _ _ _ (λ e. numbered number argument 2 _ e (other_start_lem table g argument))
      (λ _. split P _ _ _ (λ e. numbered number argument 3 _ e (other_stop_lem table g argument))
      (λ _. split P _ _ _ (λ e. numbered number argument 4 _ e (own_stop_lem table g argument))
      (λ _. split P _ _ _ (λ e. numbered number argument 5 _ e (address-byte table g argument))
      (λ _. split P _ _ _ (λ e. numbered number argument 6 _ e (byte_out_lem argument))
      (λ _. split P _ _ _ (λ e. numbered number argument 7 _ e (byte_in_lem table payload form g lines.at_58 argument))
      (λ _. split P _ _ _ (λ e. numbered number argument 8 _ e (address-lost table g lines.at_38 argument))
      (λ _. split P _ _ _ (λ e. numbered number argument 9 _ e (data_lost_lem table g lines.at_38 argument))
      (λ _. split P _ _ _ (λ e. numbered number argument 10 _ e (illegal_edge_lem table g lines.at_00 argument))
      (λ _. split P _ _ _ (λ e. numbered number argument 11 _ e (data_held_lem table g lines.at_70 argument))
      (λ _. split P _ _ _ (λ e. numbered number argument 12 _ e (clock_held_lem table g lines.at_78 argument))
      (λ _. split P _ _ _ (λ e. numbered number argument 13 _ e (idle_time table g lines.at_08 argument))
      (λ _. refusing table g number argument 7)))))))))))))

  event-step : (number argument : ℕ) → S number argument (event_of p.controller number argument)
  unfolding event_of
  event-step number argument =
      let P = S number argument in
      split P _ _ _ (λ _. refusing table g number argument 0)
      (λ _. split P _ _ _ (λ _. refusing table g number argument 1)
      (λ _. split P _ _ _ (λ e. numbered number argument 14 _ e (reset_pin_lem table g argument))
      (λ _. split P _ _ _ (λ _. event-sound number argument) (λ _. refusing table g number argument 9))))

  -- an accepted pair, by the invariant
  pub stepped : (event argument : ℕ) → eqb (event_of p.controller event argument).refused 0 ≡ true →
      Stepped job payload carried sent event argument (serve table event (taking p (event_of p.controller event argument).next))
  stepped event argument e =
      (event-step event argument).step (event-stays-sound p.controller event argument g.whole.sound) (eqb-true _ _ e)

  -- and where the job is not over it goes on by the invariant
  pub lasting : (event argument : ℕ) → eqb (event_of p.controller event argument).refused 0 ≡ true →
      let q = serve table event (taking p (event_of p.controller event argument).next) in
      q.over ≡ false → Good job payload (carried_after event argument carried) (sent_after event sent) q
  lasting event argument e = goes_on_lem (stepped event argument e)
    where
      goes_on_lem : {q : Progress} → Stepped job payload carried sent event argument q → q.over ≡ false →
          Good job payload (carried_after event argument carried) (sent_after event sent) q
      goes_on_lem (ended o' c b) o = absurd (true≢false (sym o' ∙ o))
      goes_on_lem (going k g) o = g
