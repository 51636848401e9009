-- `run` prints of a bad input that it is declined, and of any other what its job gives.
use mathlib.Core.List.{[]}
use mathlib.Core.Path.{ap, ◌∙◌}
use Rattle.console.specs.JobText.{job_text}
use Rattle.driver.specs.Run.{Result, declines}
use Rattle.job.proofs.Whole.{declined-printed, run-printed}
use Rattle.text.specs.Text.{appended}
use Rattle.job.proofs.input.run.Goals as goal

pub returns-in-Some : goal.returns-in-Some
returns-in-Some c =
    run-printed c.args.input.now _ _ c.new-text.result _ _ _ c.in-Some.ensures c.fresh_enabled-c.ensures c.new-text.ensures c.tell_job.ensures.lines

pub returns-in_default : goal.returns-in_default
unfolding declines
returns-in_default c =
    let printed = ap (λ (r : Result). appended 1024 c.new-text.result (job_text r [] [])) c.declined-declined.ensures.result in
    declined-printed c.args.input.now c.new-text.result _ c.fresh_enabled-c.result c.in_default.ensures c.fresh_enabled-c.ensures c.new-text.ensures
    (c.put_job.ensures ∙ printed)
