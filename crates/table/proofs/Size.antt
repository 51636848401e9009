-- The text has 5,247 bytes: it stands whole in the memory for it. Assumes nothing.
use mathlib.Core.Path.{◌≡◌, refl}
use native.Mathlib.Omega.{arith}
use mathlib.Core.List.{[]}
use lib.ListN.{length}
use Rattle.control.specs.Flags.{weighs}
use Rattle.control.specs.Turn.{kind}
use Rattle.control.specs.Writing.{responds_at, end_or}
use Rattle.notation.specs.Choice.{when◌then◌else◌, ◌or◌, among}
use Rattle.responses.specs.Table.{entry_at, as_entry, pattern_of}
use Rattle.table.specs.TableText.{bits, patterns, heading, cells, row_text, rows, table_text}
use Rattle.table.specs.Words.{turn_word, entry_word}
use Rattle.text.specs.Text.{appended, digit, decimal_of, hex_of}
use Rattle.text.proofs.Appended.{appended-whole}
use Rattle.console.specs.TurnText.{turn_name, called_name}

pub text_length : length table_text ≡ 5247
unfolding table_text heading patterns bits rows row_text cells entry_word turn_word turn_name called_name entry_at as_entry pattern_of responds_at end_or kind among when◌then◌else◌ ◌or◌
    digit weighs decimal_of hex_of
text_length = refl

pub whole : appended 6144 [] table_text ≡ table_text
whole = appended-whole 6144 table_text (omega (arith, text_length))
