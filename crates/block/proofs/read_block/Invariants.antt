use mathlib.Core.Path.{◌≡◌}
use Prim.Native.Nat.{◌-◌}
use lib.ListN.{length}
use Rattle.block.specs.Block.{reach_of, after_reads, values_read}
use Rattle.notation.specs.Overlay.{laid_at}
use Rattle.block.proofs.read_block.Given as goal

abbrev pub invariant-loop-byte : goal.invariant-loop-byte
invariant-loop-byte l =
    let n = length l.initial.bytes in
    let left = n - l.byte-index in
    record {
      reach : reach_of l.c ≡ l.end;
      next : after_reads left l.c ≡ after_reads n l.initial.c;
      bytes : laid_at l.byte-index (values_read left l.c) l.bytes ≡ values_read n l.initial.c;
    }
