-- `write` is `write_of`, as its access in place is.
use Rattle.controller.specs.Reply.{outcome_of}
use Rattle.controller.proofs.record.Controller.write.Goals as goal

pub returns : goal.returns
unfolding outcome_of
returns c = c.on_write-answer.ensures
