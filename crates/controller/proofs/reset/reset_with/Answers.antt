-- `reset_with` is `reset_with`: what is known at each return settles the tests of the definition.
use mathlib.Core.Path.{refl}
use Rattle.controller.specs.Reset.{reset_with}
use Rattle.controller.proofs.reset.reset_with.Goals as goal

pub returns : goal.returns
unfolding reset_with
returns c = refl
