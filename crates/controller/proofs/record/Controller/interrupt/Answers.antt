-- `interrupt` is `interrupt`: what is known at each return settles the tests of the definition.
use Rattle.controller.proofs.Outcomes.{outcomes}
use Rattle.controller.specs.Reply.{interrupts_at}
use Rattle.controller.proofs.record.Controller.interrupt.Goals as goal

pub returns : goal.returns
unfolding interrupts_at
returns c = rw c.set_status.ensures (search outcomes)
