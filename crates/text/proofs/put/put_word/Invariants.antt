use lib.ListN.{take}
use Rattle.text.specs.Text.{Holds}
use Rattle.text.proofs.put.put_word.Given as goal

abbrev pub invariant-loop-byte : goal.invariant-loop-byte
invariant-loop-byte l = Holds l.at (take l.byte-index l.word) l.initial.text l.text l.next
