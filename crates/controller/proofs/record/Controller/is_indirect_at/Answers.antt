-- `is_indirect_at` is `indirect_at`: what is known at each return settles the tests of the definition.
use Rattle.controller.specs.Access.{indirect_at}
use Rattle.notation.proofs.Cases.{cases}
use Rattle.controller.proofs.record.Controller.is_indirect_at.Goals as goal

pub returns-then-register-eq2 : goal.returns-then-register-eq2
unfolding indirect_at
returns-then-register-eq2 c = search cases

pub returns-else-register-eq2 : goal.returns-else-register-eq2
unfolding indirect_at
returns-else-register-eq2 c = search cases
