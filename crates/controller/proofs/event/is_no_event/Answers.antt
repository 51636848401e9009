-- `is_no_event`: what is known at each return settles the tests of the definition.
use Rattle.notation.proofs.Cases.{cases}
use Rattle.controller.proofs.event.is_no_event.Goals as goal

pub returns-then-number-eq0 : goal.returns-then-number-eq0
returns-then-number-eq0 c = search cases

pub returns-else-number-eq0 : goal.returns-else-number-eq0
returns-else-number-eq0 c = search cases
