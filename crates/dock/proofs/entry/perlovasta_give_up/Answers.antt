-- `perlovasta_give_up` is `give_up_call`: the head is put, and the rest stays.
use mathlib.Core.Bool.{true}
use mathlib.Core.Path.{refl, sym, ap, ◌∙◌}
use lib.ListN.{take, drop}
use native.Mathlib.Omega.{arith}
use Rattle.notation.proofs.Laid.{laid_same, part_length}
use Rattle.dock.proofs.First.{long, not-short, port, all-told}
use Rattle.dock.proofs.Told.{told-kept}
use Rattle.dock.specs.Calls.{telling, give_up_call}
use Rattle.dock.specs.StateBytes.{head_bytes, port_of}
use Rattle.notation.proofs.Cases.{when-false}
use Rattle.notation.specs.Overlay.{laid}
use Rattle.port.proofs.Begun.{broken-off}
use Rattle.port.specs.Ask.{ask_number}
use Rattle.port.specs.Begin.{give_up_of}
use Rattle.port.specs.Hear.{first_ask}
use Rattle.port.specs.Port.{Port, given_up}
use Rattle.port.specs.declared.stand.Stand.{Stand}
use Rattle.dock.proofs.entry.perlovasta_give_up.Goals as goal

pub returns : goal.returns
unfolding give_up_call given_up give_up_of port_of
returns c =
    let m = c.args.state.now in
    let a = c.in-Some.state.now in
    let first = c.in-Some.ensures.cases in
    let room = long m a first in
    let tell = c.tell_first in
    let p = given_up (port_of a) in
    let stand = c.give_up.ensures ∙ ap give_up_of c.load.ensures in
    let told =
    told-kept (telling p) p a a _ _ refl
    (tell.ensures.step ∙ ap (λ (s : Stand). ask_number (first_ask s)) stand ∙ ap ask_number (sym (broken-off (take 68 (drop 12 a)) 27 true)))
    (tell.ensures.state ∙ ap (λ (s : Stand). laid (head_bytes s) a) stand)
    refl (part_length 12 a (omega arith)) (sym (laid_same 80 68 a)) in
    let all =
    all-told m a first (give_up_call m) p _ _
    (when-false _ _ _ (not-short m a first) ∙ ap (λ (q : Port). telling (given_up q)) (sym (port m a first)))
    (part_length 12 a (omega arith)) (part_length 80 a (omega arith)) told in
    record { step = all.0; state = all.1 }
