-- `completes_reset` is `completes_reset`: what is known at each return settles the tests of the definition.
use Rattle.controller.specs.Reset.{completes_reset}
use Rattle.notation.proofs.Cases.{cases}
use Rattle.controller.proofs.record.Controller.completes_reset.Goals as goal

pub returns-then-self : goal.returns-then-self
unfolding completes_reset
returns-then-self c = search cases

pub returns-else-self : goal.returns-else-self
unfolding completes_reset
returns-else-self c = search cases
