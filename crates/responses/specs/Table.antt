-- Document 02, request 4: "one table of 512 entries, by status divided by 8 and the four bits STA, STO, AA and MODE, highest first". What the
-- entry for a status and the four bits has to be, by the rules that the controller itself goes by.
use Rattle.control.specs.declared.turn.Turn.{Turn}
use Rattle.std.specs.Prelude.{true, List, [], ◌∷◌, ◌≡◌, ℕ, ◌+◌, ◌*◌, ◌/◌, ◌%◌, ◌<◌, eqb, get_or, Option, Some, None}
use Rattle.answer.specs.declared.Refusal.TheVariants as refusal
use Rattle.control.specs.Flags.{weighs}
use Rattle.control.specs.Turn.{faults, host, waits}
use Rattle.control.specs.Writing.{responds_at}
use Rattle.control.specs.declared.flags.Control.{Control}
use Rattle.control.specs.declared.turn.Edge.TheVariants.{Stop}
use Rattle.controller.specs.Record.{given_statuses}
use Rattle.notation.specs.Choice.{when◌then◌else◌, among}
use Rattle.responses.specs.Entry.{names}
use Rattle.responses.specs.declared.entry.Entry.TheVariants.{Never, Beside, Stays, Refused, Next}
use Rattle.responses.specs.declared.entry.Entry.{Entry}

-- "the four bits STA, STO, AA and MODE, highest first": the column of these flags
unfoldable pub column_of : Control → ℕ
column_of k = weighs k.sta 8 + weighs k.sto 4 + weighs k.aa 2 + weighs k.mode 1

-- the flags of a column, ENSIO 1
unfoldable pub pattern_of : ℕ → Control
pattern_of column = record {
  aa = eqb (column / 2 % 2) 1;
  ensio = true;
  sta = eqb (column / 8 % 2) 1;
  sto = eqb (column / 4 % 2) 1;
  mode = eqb (column % 2) 1;
}

-- what the rules answer, as an entry: a turn that is Host is the one that the controller is in, at 38h
unfoldable pub as_entry : Option Turn → Entry
as_entry None = Refused refusal.Unlisted
as_entry (Some turn) = when waits turn (host ∷ []) then Stays else Next turn

-- the entry for a status and flags, ENSIO not looked at. A0h and F8h: "are beside the table, and their 32 entries say only that". 00h, 70h, 78h: refusal
-- 4. A status that some event gives: what the controller's own rule answers; any bus condition will do, since it matters at A0h alone. Else: "codes that
-- never occur".
unfoldable pub entry_at : ℕ → Control → Entry
entry_at status k =
    when among status (0xA0 ∷ 0xF8 ∷ []) then Beside
    else when among status faults then Refused refusal.Locked
    else when among status given_statuses then as_entry (responds_at status Stop k)
    else Never

-- "Show once, over the whole table, that it agrees with document 01's rules as Ask 2 left them": the number at every row and column names what the
-- rules give for that status and those bits
unfoldable pub Agrees : List (List ℕ) → Type 0
Agrees rows = (row column : ℕ) → row < 32 → column < 16 → names (get_or (get_or rows row []) column 0) ≡ entry_at (row * 8) (pattern_of column)
