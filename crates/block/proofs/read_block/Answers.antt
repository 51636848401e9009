-- `read_block` is `after_reads` and `values_read`: the reads that are left, of the record so far, always give what all of them give.
use mathlib.Core.Path.{sym, ap, ◌∙◌}
use Prim.Native.Nat.{ℕ, ◌-◌, ◌+◌}
use native.Mathlib.Nat.{sub-zero}
use lib.ListN.{length}
use Rattle.block.specs.Block.{after_reads, values_read}
use Rattle.block.proofs.Rounds.{read_one, read_done, lay_all, lay_one, lay_done}
use Rattle.notation.proofs.Overlay.{at_start}
use Rattle.notation.specs.Overlay.{laid_at}
use Rattle.block.proofs.read_block.Goals as goal

pub loop-byte-init : goal.loop-byte-init
loop-byte-init c =
    let bytes = c.args.bytes.now in
    let start = c.args.c.now in
    record {
      reach = sym c.reach-end.ensures;
      next = ap (λ (k : ℕ). after_reads k start) (sub-zero (length bytes));
      bytes = ap (λ (k : ℕ). laid_at 0 (values_read k start) bytes) (sub-zero (length bytes))
          ∙ at_start (values_read (length bytes) start) bytes
          ∙ lay_all bytes start;
    }

pub loop-byte-preserved : goal.loop-byte-preserved
loop-byte-preserved c =
    let l = c.loop-byte in
    let n = length c.args.bytes.now in
    let read = c.read_byte.ensures in
    record {
      reach = read.reach;
      next = ap (after_reads (n - (l.byte-index + 1))) read.next
          ∙ sym (read_one n l.byte-index l.c c.loop-byte-test.true)
          ∙ l.invariant.next;
      bytes = lay_one n l.byte-index l.c _ _ l.bytes (sym read.next, sym read.value) c.loop-byte-test.true l.auto.bytes ∙ l.invariant.bytes;
    }

pub returns : goal.returns
returns c =
    let l = c.loop-byte in
    let n = length c.args.bytes.now in
    let past = c.loop-byte-test.false in
    record {
      next = sym (read_done n l.byte-index l.c past) ∙ l.invariant.next;
      bytes = sym (lay_done n l.byte-index l.c l.bytes past l.auto.bytes) ∙ l.invariant.bytes;
    }
