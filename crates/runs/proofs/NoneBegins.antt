-- At 38h no job begins. Assumes nothing.
use mathlib.Core.List.{[], ◌∷◌}
use mathlib.Core.Path.{ap, ◌∙◌}
use lib.ListN.{length}
use Rattle.control.proofs.Turning.{at38h-host}
use Rattle.control.specs.Turn.{host, free, kind}
use Rattle.control.specs.declared.turn.Turn.{Turn}
use Rattle.controller.specs.Record.{sound}
use Rattle.driver.specs.Run.{Report, declines, job_of}
use Rattle.notation.proofs.Among.{among-has}
use Rattle.notation.proofs.Cases.{when-false, and_no_left, and_no_right}
use Rattle.notation.specs.Choice.{when◌then◌else◌, among}
use Rattle.runs.specs.OneRun.{NoneBegins}
use Rattle.service.specs.Request.{malformed, ready}

pub none-begins : NoneBegins
unfolding job_of ready kind
none-begins job payload room places script c l =
    let not-Free = ap (λ (t : Turn). among (kind t) (free ∷ [])) (at38h-host c.turn l) ∙ among-has host (free ∷ []) in
    ap (λ (r : Report). when malformed job (length payload) room places (length script) then declines c 21 else r)
    (when-false _ _ _ (and_no_right (sound c) _ (and_no_left _ _ not-Free)))
