-- `is_last` is `is_last`: what is known at each return settles the tests of the definition.
use Rattle.controller.specs.Transfer.{is_last}
use Rattle.notation.proofs.Cases.{cases}
use Rattle.controller.proofs.record.Controller.is_last.Goals as goal

pub returns-then-not-self : goal.returns-then-not-self
unfolding is_last
returns-then-not-self c = search cases

pub returns-else-not-self : goal.returns-else-not-self
unfolding is_last
returns-else-not-self c = search cases
