-- `has_bad_count` is `bad_count`.
use Rattle.controller.specs.I2ccon.{bad_count}
use Rattle.notation.specs.Choice.{◌and◌, ◌or◌}
use Rattle.responses.proofs.engine.has_bad_count.Goals as goal

pub returns : goal.returns
unfolding bad_count ◌and◌ ◌or◌
returns c = rw c.moves_data-moves.ensures
