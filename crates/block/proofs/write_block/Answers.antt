-- `write_block` is `written`: the bytes that are left, written to the record so far, always give what all of them give.
use mathlib.Core.Path.{sym, ap, ◌∙◌}
use Prim.Native.Nat.{◌+◌, ◌<◌, ◌≤◌}
use native.Mathlib.Omega.{arith}
use lib.ListN.{drop, get_or}
use Rattle.block.specs.Block.{reach_of, written}
use Rattle.block.proofs.DataAccess.{reach_most, reach_stays, write-inside}
use Rattle.block.proofs.Rounds.{write-one, write_done, write_full}
use Rattle.block.proofs.write_block.Goals as goal

pub bounds-c-c : goal.bounds-c-c
bounds-c-c c = omega (arith, reach_most c.loop-byte.c, c.loop-byte.invariant.reach)

pub loop-byte-preserved : goal.loop-byte-preserved
loop-byte-preserved c =
    let l = c.loop-byte in
    let bytes = c.args.bytes.now in
    let x = get_or bytes l.byte-index 0 in
    let below : l.c.hand < reach_of l.c = omega (arith, l.invariant.reach) in
    record {
      reach = reach_stays l.c _ _ below ∙ l.invariant.reach;
      all = ap (written (drop (l.byte-index + 1) bytes)) (sym (write-inside l.c x below).0)
          ∙ sym (write-one bytes l.byte-index l.c c.loop-byte-test.true)
          ∙ l.invariant.all;
    }

pub returns-then-full : goal.returns-then-full
returns-then-full c =
    let l = c.loop-byte in
    let none : reach_of l.c ≤ l.c.hand = omega (arith, l.invariant.reach) in
    sym (write_full (drop l.byte-index c.args.bytes.now) l.c none) ∙ l.invariant.all

pub returns : goal.returns
returns c =
    let l = c.loop-byte in
    sym (write_done c.args.bytes.now l.byte-index l.c c.loop-byte-test.false) ∙ l.invariant.all
