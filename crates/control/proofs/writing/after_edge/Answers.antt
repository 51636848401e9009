-- `after_edge` is `after_edge`: what is known at each return settles the tests of the definition.
use Rattle.control.specs.Writing.{after_edge}
use Rattle.control.proofs.writing.after_edge.Goals as goal

pub returns-in-Stop : goal.returns-in-Stop
unfolding after_edge
returns-in-Stop c = rw c.in-Stop.is

pub returns-in-Start : goal.returns-in-Start
unfolding after_edge
returns-in-Start c = rw c.in-Start.is
