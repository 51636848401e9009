-- `from` is `flags_of`: what is known at each return settles the tests of the definition.
use Rattle.control.specs.Flags.{flags_of}
use Rattle.notation.proofs.Cases.{cases}
use Rattle.control.proofs.flags.ControlFromU8.from.Goals as goal

pub returns : goal.returns
unfolding flags_of
returns c = search cases
