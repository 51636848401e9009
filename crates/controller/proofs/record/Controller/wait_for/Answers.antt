-- `wait_for` is `wait_for`: what is known at each return settles the tests of the definition.
use Rattle.controller.proofs.Outcomes.{outcomes}
use Rattle.controller.specs.Reply.{waits_for}
use Rattle.controller.proofs.record.Controller.wait_for.Goals as goal

pub returns : goal.returns
unfolding waits_for
returns c = search outcomes
