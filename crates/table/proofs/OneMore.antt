-- One cell more, and one row more. Assumes nothing.
use mathlib.Core.List.{[], ◌∷◌, ◌++◌}
use mathlib.Core.Path.{◌≡◌}
use Prim.Native.Nat.{ℕ, ◌+◌, ◌*◌, ◌/◌}
use native.Mathlib.Omega.{arith}
use native.Mathlib.Numerals.{add-one}
use Rattle.responses.specs.Table.{entry_at, pattern_of}
use Rattle.responses.specs.declared.entry.Entry.{Entry}
use Rattle.table.specs.TableText.{cells, row_text, rows}
use Rattle.table.specs.Words.{entry_word}

pub cell_more : (status column : ℕ) (e : Entry) → e ≡ entry_at status (pattern_of column) →
    cells status (column + 1) ≡ cells status column ++ ((32 ∷ []) ++ entry_word e)
unfolding cells
cell_more status column e h = rw (h, add-one column)

pub row_more : (n : ℕ) → rows (n + 1) ≡ rows n ++ row_text n
unfolding rows
row_more n = rw (add-one n)

pub eights : (n : ℕ) → n * 8 / 8 * 8 ≡ n * 8
eights n = omega arith
