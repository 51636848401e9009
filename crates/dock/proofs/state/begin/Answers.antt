-- `begin` lays the three parts: the head, the data and zeros.
use mathlib.Core.Path.{sym, ap, ◌∙◌}
use lib.ListN.{replicate}
use Rattle.dock.proofs.Padded.{padded-length}
use Rattle.dock.proofs.Told.{bytes-laid}
use Rattle.dock.specs.StateBytes.{head_bytes}
use Rattle.notation.specs.Overlay.{laid, laid_at}
use Rattle.port.specs.Port.{padded}
use Rattle.dock.proofs.state.begin.Goals as goal

pub returns-clause-state : goal.returns-clause-state
unfolding padded
returns-clause-state c =
    let s = c.args.s in
    let bytes = c.args.bytes.now in
    c.tell_first.ensures.state
    ∙ ap (laid (head_bytes s)) (c.put_padded-2.ensures ∙ ap (laid_at 12 (padded bytes)) c.put_padded.ensures)
    ∙ sym (bytes-laid (record { stand = s; payload = padded bytes; fetched = replicate 68 0 }) c.args.state.now (padded-length bytes))
