-- `after_edge` is `after_edge`.
use Rattle.control.specs.Writing.{after_edge}
use Rattle.responses.proofs.engine.after_edge.Goals as goal

pub returns-in-Stop : goal.returns-in-Stop
unfolding after_edge
returns-in-Stop c = rw c.in-Stop.is

pub returns-in-Start : goal.returns-in-Start
unfolding after_edge
returns-in-Start c = rw c.in-Start.is
