-- `perlovasta_take` is `take_call`: `hand_up` promises it of the bytes read back, which are then gone from the state.
use mathlib.Core.List.{List, []}
use mathlib.Core.Path.{refl, sym, ap, ◌∙◌}
use Prim.Native.Nat.{ℕ}
use native.Mathlib.Omega.{arith}
use borrow.Author.Tests.{eq-eqb, ne_eqb}
use lib.ListN.{length, take, drop}
use Rattle.dock.proofs.Emptied.{handed_up, not-handed}
use Rattle.dock.proofs.First.{long, not-short, port, same, left, size}
use Rattle.dock.proofs.Padded.{padded-length}
use Rattle.dock.proofs.Told.{kept-laid}
use Rattle.dock.specs.Calls.{emptied}
use Rattle.dock.specs.StateBytes.{head_bytes, bytes_of, port_of}
use Rattle.notation.proofs.Laid.{part_length}
use Rattle.notation.specs.Overlay.{laid, laid_at}
use Rattle.port.specs.HandUp.{take_of}
use Rattle.port.specs.Port.{Port, padded, taken}
use Rattle.port.specs.Stand.{broken_off}
use Rattle.port.specs.declared.stand.Stand.{Stand}
use Rattle.dock.proofs.entry.perlovasta_take.Goals as goal

pub returns-then-answer-number : goal.returns-then-answer-number
unfolding port_of emptied
returns-then-answer-number c =
    let destination = c.args.destination.now in
    let room = length destination in
    let m = c.args.state.now in
    let a = c.in-Some.state.now in
    let first = c.in-Some.ensures.cases in
    let fits = long m a first in
    let loaded = c.load-stand.ensures in
    let off = c.break_off in
    let p = emptied (port_of a) in
    let bytes = take 68 (drop 80 a) in
    let data_length = part_length 12 a (omega arith) in
    let state =
    c.store.ensures
    ∙ ap (laid (head_bytes off.result)) c.put_padded.ensures
    ∙ ap (λ (s : Stand). laid (head_bytes s) (laid_at 80 (padded []) a)) (off.ensures ∙ ap (λ (s : Stand). broken_off 21 s.stale) loaded)
    ∙ sym (kept-laid p a refl data_length) in
    let whole = left m a first (bytes_of p) _ (size m a first p data_length (padded-length [])) state
    ∙ ap (λ (q : Port). laid (bytes_of (emptied q)) m) (port m a first) in
    let g = handed_up m destination _ _ (take_of c.load-stand.result c.fetched.result.now room) (not-short m a first)
    (ap (λ (xs : List ℕ). take_of c.load-stand.result xs room) c.fetched.ensures
    ∙ ap (λ (s : Stand). take_of s bytes room) loaded ∙ ap (λ (q : Port). taken q room) (port m a first))
    c.hand_up-answer.ensures.answer c.hand_up-answer.ensures.handed _ (eq-eqb _ 0 (c.if-answer-number.true ∙ c.number-2.ensures)) whole in
    record { answer = g.0; handed = g.1; state = g.2 }

pub returns-else-answer-number : goal.returns-else-answer-number
unfolding port_of
returns-else-answer-number c =
    let destination = c.args.destination.now in
    let room = length destination in
    let m = c.args.state.now in
    let a = c.in-Some.state.now in
    let first = c.in-Some.ensures.cases in
    let bytes = take 68 (drop 80 a) in
    let g = not-handed m destination _ _ (take_of c.load-stand.result c.fetched.result.now room) (not-short m a first)
    (ap (λ (xs : List ℕ). take_of c.load-stand.result xs room) c.fetched.ensures
    ∙ ap (λ (s : Stand). take_of s bytes room) c.load-stand.ensures ∙ ap (λ (q : Port). taken q room) (port m a first))
    c.hand_up-answer.ensures.answer c.hand_up-answer.ensures.handed
    (ne_eqb _ 0 (λ e. c.if-answer-number.false (e ∙ sym c.number-2.ensures))) in
    record { answer = g.0; handed = g.1; state = same m a first ∙ g.2 }
