-- `direction` is `direction_of`: what is known at each return settles the tests of the definition.
use Rattle.address.specs.Number.{direction_of}
use Rattle.notation.proofs.Cases.{cases}
use Rattle.address.proofs.number.AddressByte.direction.Goals as goal

pub returns-then-self-eq1 : goal.returns-then-self-eq1
unfolding direction_of
returns-then-self-eq1 c = search cases

pub returns-else-self-eq1 : goal.returns-else-self-eq1
unfolding direction_of
returns-else-self-eq1 c = search cases
