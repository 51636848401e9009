-- Document 02, request 4, "The bench people read tables": the words in the cells. (Those of the turns are document 01's, the others the program's.)
use Rattle.std.specs.Prelude.{List, ◌++◌, ℕ, codes}
use Rattle.answer.specs.Refusal.{refusal_number}
use Rattle.console.specs.TurnText.{turn_name, called_name}
use Rattle.control.specs.declared.turn.Turn.TheVariants.{SlaveReceive}
use Rattle.control.specs.declared.turn.Turn.{Turn}
use Rattle.responses.specs.declared.entry.Entry.TheVariants.{Never, Beside, Stays, Refused, Next}
use Rattle.responses.specs.declared.entry.Entry.{Entry}
use Rattle.text.specs.Text.{decimal_of}

-- document 01's name of a turn, and of SlaveReceive the address called, "own" or "general"
unfoldable pub turn_word : Turn → List ℕ
turn_word (SlaveReceive called) = turn_name (SlaveReceive called) ++ (codes "/" ++ called_name called)
turn_word turn = turn_name turn

abbrev pub refused_cell : List ℕ
refused_cell = codes "refused"

-- "never", "beside", "stays", "refused" and the number, or the turn
unfoldable pub entry_word : Entry → List ℕ
entry_word Never = codes "never"
entry_word Beside = codes "beside"
entry_word Stays = codes "stays"
entry_word (Refused why) = refused_cell ++ decimal_of 20 (refusal_number why)
entry_word (Next turn) = turn_word turn
