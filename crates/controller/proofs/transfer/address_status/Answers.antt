-- `address_status` is `address_status`: what is known at each return settles the tests of the definition.
use Rattle.controller.specs.Transfer.{address_status}
use Rattle.notation.proofs.Cases.{cases}
use Rattle.controller.proofs.transfer.address_status.Goals as goal

pub returns-then-nacked : goal.returns-then-nacked
unfolding address_status
returns-then-nacked c = rw c.in-Write.is (search cases)

pub returns-else-nacked : goal.returns-else-nacked
unfolding address_status
returns-else-nacked c = rw c.in-Write.is (search cases)

pub returns-then-nacked-2 : goal.returns-then-nacked-2
unfolding address_status
returns-then-nacked-2 c = rw c.in-Read.is (search cases)

pub returns-else-nacked-2 : goal.returns-else-nacked-2
unfolding address_status
returns-else-nacked-2 c = rw c.in-Read.is (search cases)
