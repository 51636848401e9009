-- `pattern` is `pattern_of`.
use Rattle.notation.proofs.Cases.{cases}
use Rattle.responses.specs.Table.{pattern_of}
use Rattle.responses.proofs.table.pattern.Goals as goal

pub returns : goal.returns
unfolding pattern_of
returns c = search cases
