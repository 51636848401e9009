-- `entry_at` is `entry_at`, by the agreement at the row and the column that it reads.
use mathlib.Core.Path.{ap, ◌∙◌}
use Prim.Native.Nat.{ℕ, ◌*◌, ◌/◌}
use borrow.Author.Rules.{rules}
use Rattle.responses.specs.Table.{entry_at, pattern_of, Agrees}
use Rattle.responses.proofs.Columns.{entry_column}
use Rattle.responses.proofs.table.entry_at.Goals as goal

pub returns : goal.returns
unfolding Agrees
returns c =
    let status = c.args.status in
    let column = c.column.ensures in
    c.from.ensures
    ∙ c.table-rows.ensures (status / 8) c.column.result (search rules) column.below
    ∙ ap (λ (n : ℕ). entry_at (status / 8 * 8) (pattern_of n)) column.column
    ∙ entry_column _ _
