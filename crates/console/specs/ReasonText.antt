-- The words for why a move ended, in each record line of a trace. (Document 02, request 8, names the reasons; the words are the program's.)
use Rattle.std.specs.Prelude.{List, ◌++◌, ℕ, codes}
use Rattle.control.specs.declared.reason.Reason.TheVariants.{NoneYet, CountReached, Nack, Outside, ArbitrationLost, Fault, Reset}
use Rattle.control.specs.declared.reason.Reason.{Reason}

-- The words.
abbrev pub before_reason : List ℕ
before_reason = codes " reason "

unfoldable pub reason_word : Reason → List ℕ
reason_word NoneYet = codes "none"
reason_word CountReached = codes "count"
reason_word Nack = codes "nack"
reason_word Outside = codes "outside"
reason_word ArbitrationLost = codes "arbitration"
reason_word Fault = codes "fault"
reason_word Reset = codes "reset"

-- ` reason nack`
unfoldable pub reason_text : Reason → List ℕ
reason_text reason = before_reason ++ reason_word reason
