use mathlib.Core.Path.{◌≡◌}
use Prim.Native.Nat.{◌*◌, ◌/◌}
use Rattle.table.specs.TableText.{cells}
use Rattle.text.specs.Text.{appended}
use Rattle.table.proofs.rows.put_cells.Given as goal

abbrev pub invariant-loop-column : goal.invariant-loop-column
invariant-loop-column g l = l.text ≡ appended g.row.N l.initial.text (cells (l.status / 8 * 8) l.column)
