-- `perlovasta_recover` is `recover_call`: `begin` promises it of the stand and the settings.
use mathlib.Core.Path.{refl, sym, ap, ◌∙◌}
use lib.ListN.{replicate}
use Rattle.dock.proofs.First.{not-short, port, all-told}
use Rattle.dock.proofs.Padded.{padded-length}
use Rattle.dock.specs.Calls.{telling, recover_call}
use Rattle.dock.specs.StateBytes.{bytes_of, stand_of, port_of}
use Rattle.notation.proofs.Cases.{when-false}
use Rattle.notation.specs.Overlay.{laid}
use Rattle.port.proofs.Begun.{recovery-asks}
use Rattle.port.specs.Ask.{ask_number}
use Rattle.port.specs.Begin.{recover_of}
use Rattle.port.specs.Hear.{first_ask}
use Rattle.port.specs.Port.{Port, padded, recovering}
use Rattle.port.specs.declared.stand.Stand.{Stand}
use Rattle.dock.proofs.entry.perlovasta_recover.Goals as goal

pub returns : goal.returns
unfolding recover_call recovering telling port_of
returns c =
    let settings = c.args.settings.now in
    let m = c.args.state.now in
    let a = c.in-Some.state.now in
    let first = c.in-Some.ensures.cases in
    let begun = c.begin.ensures in
    let p = recovering (port_of a) settings in
    let stand = c.bring_back-stand.ensures ∙ ap (λ (s : Stand). recover_of s settings) c.load.ensures in
    let all =
    all-told m a first (recover_call m settings) p _ _
    (when-false _ _ _ (not-short m a first) ∙ ap (λ (q : Port). telling (recovering q settings)) (sym (port m a first)))
    (padded-length settings) refl (
      begun.step ∙ ap (λ (s : Stand). ask_number (first_ask s)) stand ∙ ap ask_number (sym (recovery-asks (padded settings) (stand_of a) settings)),
      begun.state ∙ ap (λ (s : Stand). laid (bytes_of (record { stand = s; payload = padded settings; fetched = replicate 68 0 })) a) stand,
    ) in
    record { step = all.0; state = all.1 }
