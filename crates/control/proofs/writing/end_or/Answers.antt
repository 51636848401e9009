-- `end_or` is `end_or`: what is known at each return settles the tests of the definition.
use Rattle.control.specs.Writing.{end_or}
use Rattle.notation.proofs.Cases.{cases}
use Rattle.control.proofs.writing.end_or.Goals as goal

pub returns-then-k : goal.returns-then-k
unfolding end_or
returns-then-k c = search cases

pub returns-then-k-2 : goal.returns-then-k-2
unfolding end_or
returns-then-k-2 c = search cases

pub returns-else-k-2 : goal.returns-else-k-2
unfolding end_or
returns-else-k-2 c = search cases
