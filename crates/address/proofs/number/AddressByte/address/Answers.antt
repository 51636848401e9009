-- `address` is `address_of`: what is known at each return settles the tests of the definition.
use Rattle.address.specs.Number.{address_of}
use Rattle.notation.proofs.Cases.{cases}
use Rattle.address.proofs.number.AddressByte.address.Goals as goal

pub returns : goal.returns
unfolding address_of
returns c = search cases
