-- `write_by_table` is `write_of` of I2CCON: it is `on_write_by_table` on a record by value.
use Rattle.controller.specs.Reply.{outcome_of}
use Rattle.responses.proofs.engine.write_by_table.Goals as goal

pub returns : goal.returns
unfolding outcome_of
returns c = c.on_write_by_table-answer.ensures
