-- `calls_own` is `calls_own`: both addresses are those of the definition.
use Rattle.address.specs.Matching.{calls_own}
use Rattle.notation.specs.Choice.{◌and◌}
use Rattle.notation.proofs.Cases.{cases}
use Rattle.address.proofs.matching.calls_own.Goals as goal

pub returns : goal.returns
unfolding calls_own ◌and◌
returns c = rw (← c.address-own.ensures, ← c.address-called.ensures) (search cases)
