-- Which statuses a job meets, by its direction. Assumes nothing.
use mathlib.Core.Bool.{Bool, true, false, true≢false}
use mathlib.Core.List.{List, [], ◌∷◌}
use mathlib.Core.Path.{◌≡◌, sym, ap, subst, ◌∙◌}
use Prim.Native.Nat.{ℕ}
use lib.Dec.{T, eqb}
use Rattle.address.specs.declared.number.Direction.TheVariants.{Write, Read}
use Rattle.address.specs.declared.number.Direction.{Direction}
use Rattle.control.proofs.Turning.{status-idle}
use Rattle.control.specs.Turn.{host, address, send, receive, status_of}
use Rattle.controller.specs.Condition.{own_start, other_start, other_stop, own_stop, addressed, address_byte}
use Rattle.controller.specs.Condition.{outbid, address_lost, data_lost, illegal_edge, data_held, clock_held, idle}
use Rattle.controller.specs.Event.{event_sound, event_of}
use Rattle.controller.specs.Reply.{Outcome, refuses, accepts, waits_for, interrupts_at, gives, changes_status}
use Rattle.controller.specs.Reset.{reset_with}
use Rattle.controller.specs.Transfer.{address_status, sent_direction, data_out, byte_out, acknowledges_last, received, data_in, byte_in}
use Rattle.notation.proofs.Among.{has, every, same, is_true, among-has, apart}
use Rattle.notation.proofs.Cases.{split}
use Rattle.notation.specs.Choice.{when◌then◌else◌, among}
use Rattle.port.specs.Look.{meets}
use Rattle.runs.proofs.Invariant.{In, job_turns, Good}
use Rattle.runs.proofs.Receiving.{nacks_last}
use Rattle.runs.proofs.Sending.{direction}
use Rattle.runs.proofs.Step.{here, no_match}
use Rattle.service.specs.declared.job.Job.{Job}
use Rattle.service.specs.declared.progress.Progress.{Progress}

-- a status that jobs of both directions meet
in_both : (d : Direction) (s : ℕ) → T (has (meets Write) s) → T (has (meets Read) s) → T (has (meets d) s)
in_both Write s w r = w
in_both Read s w r = r

module _ {job : Job} {payload carried : List ℕ} {sent : ℕ} {p : Progress} (g : Good job payload carried sent p) where
  -- an outcome that shows F8h, or a status that the job meets
  record Met (o : Outcome) : Type 0 where
    met : eqb (status_of o.next.turn) 0xF8 ≡ false → among (status_of o.next.turn) (meets job.direction) ≡ true

  quiet : (o : Outcome) → status_of o.next.turn ≡ 0xF8 → Met o
  quiet o e = record { met = λ f. absurd (true≢false (sym (ap (λ (s : ℕ). eqb s 0xF8) e) ∙ f)) }

  listed : (o : Outcome) → T (has (meets job.direction) (status_of o.next.turn)) → Met o
  listed o t = record { met = λ _. among-has _ (meets job.direction) ∙ is_true _ t }

  by_direction : (d : Direction) (s : ℕ) → job.direction ≡ d → T (has (meets d) s) → T (has (meets job.direction) s)
  by_direction d s e t = subst (λ (x : Direction). T (has (meets x) s)) (sym e) t

  -- in whatever direction; in Send; in Receive
  in_any : (o : Outcome) → T (has (meets Write) (status_of o.next.turn)) → T (has (meets Read) (status_of o.next.turn)) → Met o
  in_any o w r = listed o (in_both job.direction _ w r)

  in_send : (o : Outcome) → In p (send ∷ []) → T (has (meets Write) (status_of o.next.turn)) → Met o
  in_send o t s = listed o (by_direction Write _ (g.sending t).1 s)

  in_receive : (o : Outcome) → In p (receive ∷ []) → T (has (meets Read) (status_of o.next.turn)) → Met o
  in_receive o t s = listed o (by_direction Read _ (g.receiving t).1 s)

  -- the address byte out
  answered : (d : Direction) (nack v : ℕ) → job.direction ≡ d → Met (gives p.controller (address_status d nack) v)
  unfolding address_status interrupts_at accepts status_of
  answered Write nack v e =
      split (λ s. Met (gives p.controller s v)) _ _ _ (λ _. listed _ (by_direction Write 0x20 e tt)) (λ _. listed _ (by_direction Write 0x18 e tt))
  answered Read nack v e =
      split (λ s. Met (gives p.controller s v)) _ _ _ (λ _. listed _ (by_direction Read 0x48 e tt)) (λ _. listed _ (by_direction Read 0x40 e tt))

  address_out : (nack v : ℕ) → In p (address ∷ []) → Met (gives p.controller (address_status (sent_direction p.controller) nack) v)
  address_out nack v t = answered (sent_direction p.controller) nack v (sym (direction g t))

  -- the turn is none of a job's; a choice; in Receive no last byte is acknowledged, and no turn of a job is Host
  not-here : (o : Outcome) (ks : List ℕ) → In p ks → T (every (λ k. same (has ks k) false) job_turns) → Met o
  not-here o ks t n = absurd (here g ks n t)

  chosen : (b : Bool) (x y : Outcome) → (b ≡ true → Met x) → (b ≡ false → Met y) → Met (when b then x else y)
  chosen b x y f h = split Met b x y f h

  no_ack : (o : Outcome) → In p (receive ∷ []) → acknowledges_last p.controller ≡ true → Met o
  no_ack o t e = absurd (true≢false (sym e ∙ nacks_last g t))

  module _ (number argument : ℕ) where
    event-met : Met (event_of p.controller number argument)
    unfolding event_of event_sound own_start other_start other_stop own_stop address_byte addressed address_lost outbid data_lost illegal_edge
        data_held clock_held idle byte_out data_out byte_in data_in received refuses accepts waits_for interrupts_at changes_status reset_with status_of
    event-met =
        let now = status-idle p.controller.turn (apart _ job_turns (host ∷ []) tt g.turn) in
        rw (no_match g argument) (search (chosen, quiet, address_out, no_ack, in_any, in_send, in_receive, not-here, now, tt) depth 40 fits 30000)

    pub status-met : eqb (status_of (event_of p.controller number argument).next.turn) 0xF8 ≡ false →
        among (status_of (event_of p.controller number argument).next.turn) (meets job.direction) ≡ true
    status-met = event-met.met
