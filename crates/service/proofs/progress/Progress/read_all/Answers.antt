-- `read_all` is its definition: a block is read into the first so many of the bytes held.
use mathlib.Core.Path.{◌≡◌, sym, ap, ◌∙◌}
use Prim.Native.Nat.{ℕ, ◌≤◌, min}
use native.Mathlib.Omega.{arith}
use borrow.Author.Tests.{ltb-true, ltb-false}
use lib.Dec.{ltb}
use lib.ListN.{length}
use Rattle.notation.proofs.Cases.{split}
use Rattle.service.specs.Act.{fetch, read_times, does}
use Rattle.service.proofs.Blocks.{fetching, fetch_block}
use Rattle.service.proofs.progress.Progress.read_all.Goals as goal

times : (n count : ℕ) → n ≡ min count 68 → n ≡ read_times count
unfolding read_times
times n count e =
    split (λ (k : ℕ). n ≡ k) (ltb 68 count) _ _ (λ b. omega (arith, e, ltb-true 68 count b)) (λ b. omega (arith, e, ltb-false 68 count b))

pub returns : goal.returns
unfolding does
returns c =
    let p = c.args.self.now in
    let n = c.min-n.result in
    let room : n ≤ length p.fetched = omega arith in
    let read = c.read_first.ensures in
    ap (λ d. fetching p d c.read_first.new.places) read.next
    ∙ ap (fetching p _) read.places
    ∙ sym (fetch_block n p room)
    ∙ ap (λ (k : ℕ). fetch k 0 p) (times n p.count c.min-n.ensures)
