-- `cursor` is `cursor`: what is known at each return settles the tests of the definition.
use Rattle.controller.specs.Transfer.{cursor}
use Rattle.notation.proofs.Cases.{cases}
use Rattle.controller.proofs.record.Controller.cursor.Goals as goal

pub returns-then-self : goal.returns-then-self
unfolding cursor
returns-then-self c = search cases

pub returns-else-self : goal.returns-else-self
unfolding cursor
returns-else-self c = search cases
