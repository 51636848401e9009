use mathlib.Core.Path.{◌≡◌}
use Rattle.table.specs.TableText.{rows}
use Rattle.text.specs.Text.{appended}
use Rattle.table.proofs.rows.put_rows.Given as goal

abbrev pub invariant-loop-row : goal.invariant-loop-row
invariant-loop-row g l = l.text ≡ appended g.row.N l.initial.text (rows l.row)
