use lib.ListN.{take}
use Rattle.text.specs.Text.{listed, Holds}
use Rattle.text.proofs.put.put_listed.Given as goal

abbrev pub invariant-loop-byte : goal.invariant-loop-byte
invariant-loop-byte l = Holds l.at (listed (take l.byte-index l.bytes)) l.initial.text l.text l.next
