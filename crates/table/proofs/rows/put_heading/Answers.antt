-- `put_heading` puts the heading, which computes to the bytes in the source.
use Rattle.control.specs.Flags.{weighs}
use Rattle.notation.specs.Choice.{when◌then◌else◌}
use Rattle.responses.specs.Table.{pattern_of}
use Rattle.table.specs.TableText.{heading, patterns, bits}
use Rattle.text.specs.Text.{digit}
use Rattle.table.proofs.rows.put_heading.Goals as goal

pub returns : goal.returns
unfolding heading patterns bits pattern_of weighs digit when◌then◌else◌
returns g c = c.put_word.ensures
