-- `tell_job` lends what is left of the text's memory, in which the lines stand first.
use Rattle.std.proofs.Common.{◌≡◌, length, rules}
use Rattle.text.proofs.Appended.{put_rest}
use Rattle.console.proofs.fixed.tell_job.Goals as goal

pub returns-clause-lines : goal.returns-clause-lines
returns-clause-lines g c =
    let all : length c.text.inside.bytes ≡ g.row.N = search rules in
    rw (← c.text.view_is) (put_rest g.row.N _ _ _ all c.text.invariant c.tell_job-told.ensures.lines)
