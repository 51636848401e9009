-- Many bytes written to I2CDAT are a block written, and many read from it a block read. Assumes nothing.
use mathlib.Core.List.{List, [], ◌∷◌, ◌++◌, map}
use mathlib.Core.Path.{◌≡◌, refl, sym, ap, ◌∙◌}
use Prim.Native.Nat.{ℕ, zero, suc, ◌+◌, ◌≤◌}
use native.Mathlib.Nat.{le_of_suc-le-suc, not-suc-le-zero}
use native.Mathlib.Omega.{arith}
use lib.ListN.{length, drop, length-set}
use Rattle.block.specs.Block.{written, after_reads, values_read}
use Rattle.controller.specs.Access.{read_of}
use Rattle.controller.specs.declared.record.Controller.{Controller}
use Rattle.notation.proofs.Overlay.{at_start, none, one_more}
use Rattle.notation.specs.Overlay.{laid, laid_at}
use Rattle.service.specs.Act.{Act, writes, put, reads, fetch_one, fetch, does, does_all}
use Rattle.service.specs.Progress.{with_record, with_fetched}
use Rattle.service.specs.declared.progress.Progress.{Progress}

pub load_block : (xs : List ℕ) (rest : List Act) (p : Progress) →
    does_all (map (writes 1) xs ++ rest) p ≡ does_all rest (with_record p (written xs p.controller))
unfolding does_all does written put
load_block [] rest p = refl
load_block (x ∷ xs) rest p = load_block xs rest (does (writes 1 x) p)

-- this record, and these bytes read back
abbrev pub fetching : Progress → Controller → List ℕ → Progress
fetching p c xs = with_fetched (with_record p c) xs

-- the bytes fetched are a block read, laid over those held
fetch-laid : (n i : ℕ) (p : Progress) → i + n ≤ length p.fetched →
    fetch n i p ≡ fetching p (after_reads n p.controller) (laid_at i (values_read n p.controller) p.fetched)
unfolding fetch fetch_one reads after_reads values_read
fetch-laid zero i p h = ap (fetching p p.controller) (sym (none i p.fetched))
fetch-laid (suc more) i p h =
    let value = (read_of p.controller 1).value in
    let next = (read_of p.controller 1).next in
    let l = length-set p.fetched i value in
    fetch-laid more (i + 1) (fetch_one i p) (omega arith)
    ∙ ap (fetching p (after_reads more next)) (one_more i value (values_read more next) p.fetched (omega arith))

laid_block : (n : ℕ) (c : Controller) (lent : List ℕ) → n ≤ length lent → laid (values_read n c) lent ≡ values_read n c ++ drop n lent
unfolding laid values_read
laid_block zero c lent h = refl
laid_block (suc n) c [] h = absurd (not-suc-le-zero h)
laid_block (suc n) c (y ∷ lent) h =
    ap (λ (l : List ℕ). (read_of c 1).value ∷ l) (laid_block n (read_of c 1).next lent (le_of_suc-le-suc h))

pub fetch_block : (n : ℕ) (p : Progress) → n ≤ length p.fetched →
    fetch n 0 p ≡ fetching p (after_reads n p.controller) (values_read n p.controller ++ drop n p.fetched)
fetch_block n p h =
    let c = p.controller in
    fetch-laid n 0 p (omega arith) ∙ ap (fetching p (after_reads n c)) (at_start (values_read n c) p.fetched ∙ laid_block n c p.fetched h)
