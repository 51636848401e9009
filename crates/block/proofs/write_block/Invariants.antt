use mathlib.Core.Path.{◌≡◌}
use lib.ListN.{drop}
use Rattle.block.specs.Block.{reach_of, written}
use Rattle.block.proofs.write_block.Given as goal

abbrev pub invariant-loop-byte : goal.invariant-loop-byte
invariant-loop-byte l = record {
  reach : reach_of l.c ≡ l.end;
  all : written (drop l.byte-index l.bytes) l.c ≡ written l.bytes l.initial.c;
}
