-- `table` agrees with the rules: the test is computed here, over all 512 entries.
use mathlib.Core.Path.{refl}
use Rattle.control.specs.Turn.{kind}
use Rattle.control.specs.Writing.{responds_at, end_or}
use Rattle.notation.specs.Choice.{when◌then◌else◌, ◌or◌, among}
use Rattle.responses.specs.Entry.{names}
use Rattle.responses.specs.Table.{entry_at, as_entry, pattern_of}
use Rattle.responses.proofs.Agreement.{agrees}
use Rattle.responses.proofs.table.table.Goals as goal

pub returns : goal.returns
unfolding names entry_at as_entry pattern_of responds_at end_or kind among when◌then◌else◌ ◌or◌
returns c = agrees _ refl
