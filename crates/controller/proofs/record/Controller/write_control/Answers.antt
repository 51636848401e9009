-- `write_control` is `write_control`: what is known at each return settles the tests of the definition.
use mathlib.Core.Path.{◌∙◌}
use Rattle.controller.specs.I2ccon.{write_control}
use Rattle.controller.proofs.record.Controller.write_control.Goals as goal

pub returns : goal.returns
unfolding write_control
returns c = c.write_flags.ensures ∙ rw c.from.ensures
