-- Document 02, request 4, "The bench people read tables": what the program prints, a heading and a line for each status.
use Rattle.std.specs.Prelude.{List, [], ◌∷◌, ◌++◌, ℕ, zero, suc, ◌*◌, codes}
use Rattle.control.specs.Flags.{weighs}
use Rattle.control.specs.declared.flags.Control.{Control}
use Rattle.responses.specs.Table.{entry_at, pattern_of}
use Rattle.table.specs.Words.{entry_word}
use Rattle.text.specs.Text.{digit, hex_of}

abbrev pub status_word : List ℕ
status_word = codes "status"

-- STA, STO, AA and MODE, "highest first", as digits
unfoldable pub bits : Control → List ℕ
bits k = digit (weighs k.sta 1) ∷ digit (weighs k.sto 1) ∷ digit (weighs k.aa 1) ∷ digit (weighs k.mode 1) ∷ []

-- the patterns of the first columns, a space before each
unfoldable pub patterns : ℕ → List ℕ
patterns zero = []
patterns (suc column) = patterns column ++ (codes " " ++ bits (pattern_of column))

-- `status 0000 0001 ..`
unfoldable pub heading : List ℕ
heading = status_word ++ (patterns 16 ++ (codes "\n"))

-- the cells of a status in the first columns, a space before each: what the rules give there
unfoldable pub cells : ℕ → ℕ → List ℕ
cells status zero = []
cells status (suc column) = cells status column ++ (codes " " ++ entry_word (entry_at status (pattern_of column)))

-- the line of a status: two hex digits, then the sixteen cells
unfoldable pub row_text : ℕ → List ℕ
row_text n = hex_of (n * 8) ++ (cells (n * 8) 16 ++ (codes "\n"))

-- the first lines, one for each status from 00h on
unfoldable pub rows : ℕ → List ℕ
rows zero = []
rows (suc n) = rows n ++ row_text n

-- all that is printed
unfoldable pub table_text : List ℕ
table_text = heading ++ rows 32
