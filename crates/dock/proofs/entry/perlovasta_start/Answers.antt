-- `perlovasta_start` is `start_call`: `begin` promises it of the stand and the data.
use mathlib.Core.List.{List}
use mathlib.Core.Path.{refl, sym, ap, ◌∙◌}
use Prim.Native.Nat.{ℕ}
use lib.ListN.{length, replicate}
use Rattle.dock.proofs.First.{not-short, port, all-told}
use Rattle.dock.proofs.Padded.{padded-length}
use Rattle.dock.specs.Calls.{telling, job_asked, start_call}
use Rattle.dock.specs.StateBytes.{bytes_of, stand_of, port_of}
use Rattle.notation.proofs.Cases.{when-false}
use Rattle.notation.specs.Overlay.{laid}
use Rattle.port.proofs.Begun.{start_asks}
use Rattle.port.specs.Ask.{ask_number}
use Rattle.port.specs.Begin.{start_of}
use Rattle.port.specs.Hear.{first_ask}
use Rattle.port.specs.Port.{Port, padded, kept_data, started}
use Rattle.port.specs.declared.stand.Stand.{Stand}
use Rattle.service.specs.declared.job.Job.{Job}
use Rattle.dock.proofs.entry.perlovasta_start.Goals as goal

pub returns : goal.returns
unfolding start_call started telling port_of
returns c =
    let s = c.args in
    let bytes = s.bytes.now in
    let m = s.state.now in
    let a = c.in-Some.state.now in
    let first = c.in-Some.ensures.cases in
    let begun = c.begin.ensures in
    let asked = c.job_asked-job in
    let job = job_asked s.kind s.address s.n in
    let p = started (port_of a) job bytes in
    let kept = c.kept.ensures ∙ ap (λ (j : Job). kept_data j.direction j.n bytes) asked.ensures in
    let stand = c.start-stand.ensures ∙ ap (λ (t : Stand). start_of t asked.result (length bytes)) c.load.ensures
    ∙ ap (λ (j : Job). start_of (stand_of a) j (length bytes)) asked.ensures in
    let laid_with : Stand → List ℕ → List ℕ =
    λ t xs. laid (bytes_of (record { stand = t; payload = padded xs; fetched = replicate 68 0 })) a in
    let all =
    all-told m a first (start_call m s.kind s.address s.n bytes) p _ _
    (when-false _ _ _ (not-short m a first) ∙ ap (λ (q : Port). telling (started q job bytes)) (sym (port m a first)))
    (padded-length (kept_data job.direction job.n bytes)) refl (
      begun.step ∙ ap (λ (t : Stand). ask_number (first_ask t)) stand ∙ ap ask_number (sym (start_asks p.payload (stand_of a) job (length bytes))),
      begun.state ∙ ap (laid_with _) kept ∙ ap (λ (t : Stand). laid_with t (kept_data job.direction job.n bytes)) stand,
    ) in
    record { step = all.0; state = all.1 }
