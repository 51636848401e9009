-- Two runs of one job over twins give the same: the bytes that events 6 and 8 read are the job's own in both. Assumes nothing.
use mathlib.Core.List.{List, [], ◌∷◌}
use mathlib.Core.Logic.{inl, inr}
use mathlib.Core.Path.{◌≡◌, sym, ap, ◌∙◌}
use Prim.Native.Nat.{ℕ, ◌<◌}
use native.Mathlib.Omega.{arith}
use lib.ListN.{length, get_or}
use lib.Seq.{get_or-take}
use types.Run.{OneOf}
use Rattle.control.specs.Turn.{address, send, slave_send, data_turns, kind}
use Rattle.controller.specs.Record.{place}
use Rattle.controller.specs.Transfer.{cursor}
use Rattle.controller.specs.declared.record.Controller.{Controller}
use Rattle.driver.specs.Run.{run}
use Rattle.notation.proofs.Among.{has, among-has, within, one_of, clash}
use Rattle.notation.proofs.Cases.{when-true}
use Rattle.notation.specs.Choice.{when◌then◌else◌, among}
use Rattle.noninterference.proofs.Blind.{Reading}
use Rattle.noninterference.proofs.Twin.{Twin, Same}
use Rattle.noninterference.proofs.TwoRuns.{RunSame, Kept, run-same}
use Rattle.runs.proofs.Events.{lasting}
use Rattle.runs.proofs.Invariant.{In, job_turns, below-count, carried_after, sent_after, Good}
use Rattle.runs.proofs.Lines.{JobLines}
use Rattle.runs.proofs.Sending.{byte-count}
use Rattle.service.proofs.Formed.{Formed}
use Rattle.service.specs.Serve.{Table}
use Rattle.service.specs.declared.job.Job.{Job}
use Rattle.service.specs.declared.progress.Progress.{Progress}

module _ (table : Table) {room places : ℕ} {job : Job} (payload : List ℕ) (form : Formed job (length payload) room places)
    (lines : JobLines table job payload) where
  reads-own : {before before' : List ℕ} {sent sent' : ℕ} {p p' : Progress} → Good job payload before sent p →
      Good job payload before' sent' p' →
      Twin p.controller p'.controller → Reading p.controller p'.controller.buffer
  unfolding cursor
  reads-own {p = p} {p' = p'} g g' t =
      record {
        address = λ a. (g.addressing a).1 ∙ sym (g'.addressing (along (address ∷ []) a)).1;
        moved = λ a. from (only_send a);
      }
    where
      c : Controller
      c = p.controller

      along : (ls : List ℕ) → In p ls → In p' ls
      along ls a = ap (λ (x : Controller). among (kind x.turn) ls) (sym t.rest) ∙ a

      only_send : In p (send ∷ slave_send ∷ []) → In p (send ∷ [])
      only_send a = pick (one_of (send ∷ slave_send ∷ []) (kind c.turn) a)
        where
          pick : OneOf (send ∷ slave_send ∷ []) (kind c.turn) → In p (send ∷ [])
          pick (inl e) = among-has (kind c.turn) (send ∷ []) ∙ ap (has (send ∷ [])) e
          pick (inr e) = clash _ job_turns (slave_send ∷ []) tt g.turn (among-has (kind c.turn) (slave_send ∷ []) ∙ ap (has (slave_send ∷ [])) e)

      from : In p (send ∷ []) →
          place c (when c.control.mode then c.moved else 0) ≡ get_or p'.controller.buffer (when c.control.mode then c.moved else 0) 0
      from a =
          let buffer' = p'.controller.buffer in
          let b = below-count c g.whole.sound (within _ (send ∷ []) data_turns tt a) (g.sending a).0 in
          let n = byte-count payload form g in
          let low : c.moved < job.n = omega (arith, b, n) in
          let k = when-true c.control.mode c.moved 0 (g.sending a).0 in
          ap (λ (i : ℕ). get_or c.buffer i 0) k ∙ sym (get_or-take job.n c.buffer c.moved 0 low) ∙
          ap (λ (l : List ℕ). get_or l c.moved 0) ((g.sending a).2 ∙ sym (g'.sending (along (send ∷ []) a)).2) ∙
          get_or-take job.n buffer' c.moved 0 low ∙ ap (λ (i : ℕ). get_or buffer' i 0) (sym k)

  -- somewhere in the job
  record Somewhere (p : Progress) : Type 0 where
    before : List ℕ
    sent : ℕ
    good : Good job payload before sent p

  kept : Kept table Somewhere
  kept = record {
    keeps = λ p event argument h ok o. record {
      before = carried_after event argument h.before;
      sent = sent_after event h.sent;
      good = lasting table payload form lines h.good event argument ok o;
    };
    reading = λ p p' h h' t. reads-own h.good h'.good t;
  }

  pub job-same : (script : List ℕ) (p p' : Progress) → Good job payload [] 0 p → Good job payload [] 0 p' → Same p p' →
      RunSame (run table p script) (run table p' script)
  job-same script p p' g g' s =
      run-same table Somewhere kept script p p' (record { before = []; sent = 0; good = g }) (record { before = []; sent = 0; good = g' }) s
