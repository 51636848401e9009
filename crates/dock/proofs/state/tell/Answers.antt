-- `tell` lays the head and tells what is asked for: the head is before the data, which stay.
use mathlib.Core.List.{List}
use mathlib.Core.Path.{ap, ◌∙◌}
use Prim.Native.Nat.{ℕ}
use native.Mathlib.Omega.{arith}
use lib.ListN.{take, drop}
use Rattle.notation.proofs.Laid.{after-laid}
use Rattle.dock.specs.StateBytes.{head_bytes}
use Rattle.port.specs.Ask.{ask_number}
use Rattle.port.specs.Hear.{asks}
use Rattle.dock.proofs.state.tell.Goals as goal

pub returns-clause-step : goal.returns-clause-step
unfolding head_bytes
returns-clause-step c =
    let a = c.before.args in
    let behind = ap (drop 12) c.store.ensures ∙ after-laid 12 (head_bytes a.s) a.state.now (omega arith) in
    c.from.ensures ∙ ap ask_number c.ask.ensures
    ∙ ap (λ (l : List ℕ). ask_number (asks a.s l)) c.payload.ensures
    ∙ ap (λ (l : List ℕ). ask_number (asks a.s (take 68 l))) behind
