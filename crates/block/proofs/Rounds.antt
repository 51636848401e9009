-- One round of each loop, its beginning and its end. Assumes nothing.
use mathlib.Core.List.{List, [], ◌∷◌}
use mathlib.Core.Path.{◌≡◌, refl, sym, ap, ◌∙◌}
use Prim.Native.Nat.{ℕ, suc, ◌+◌, ◌-◌, ◌≤◌, ◌<◌}
use native.Mathlib.Numerals.{add-one}
use native.Mathlib.Omega.{arith}
use lib.ListN.{length, drop, get_or, set, drop_of_length-le}
use lib.Seq.{drop-cons}
use Rattle.controller.specs.Access.{read_of, write_of}
use Rattle.controller.specs.declared.record.Controller.{Controller}
use Rattle.block.specs.Block.{reach_of, written, after_reads, values_read}
use Rattle.block.proofs.DataAccess.{Gives, write-outside}
use Rattle.notation.proofs.Overlay.{one_more, past_end}
use Rattle.notation.specs.Overlay.{laid, laid_at}

-- one byte of those that are left to write, and none
pub write-one : (xs : List ℕ) (i : ℕ) (c : Controller) → i < length xs →
    written (drop i xs) c ≡ written (drop (i + 1) xs) (write_of c 1 (get_or xs i 0)).next
unfolding written
write-one xs i c h = ap (λ (l : List ℕ). written l c) (drop-cons xs i 0 h ∙ ap (λ (k : ℕ). get_or xs i 0 ∷ drop k xs) (sym (add-one i)))

pub write_done : (xs : List ℕ) (i : ℕ) (c : Controller) → length xs ≤ i → written (drop i xs) c ≡ c
unfolding written
write_done xs i c h = ap (λ (l : List ℕ). written l c) (drop_of_length-le xs h)

-- no place left: all the bytes are refused
pub write_full : (xs : List ℕ) (c : Controller) → reach_of c ≤ c.hand → written xs c ≡ c
unfolding written
write_full [] c h = refl
write_full (x ∷ xs) c h = ap (written xs) (write-outside c x h).0 ∙ write_full xs c h

-- one of the reads that are left, and none
pub read_one : (n i : ℕ) (c : Controller) → i < n → after_reads (n - i) c ≡ after_reads (n - (i + 1)) (read_of c 1).next
unfolding after_reads
read_one n i c h =
    let e : n - i ≡ suc (n - (i + 1)) = omega arith in
    ap (λ (k : ℕ). after_reads k c) e

pub read_done : (n i : ℕ) (c : Controller) → n ≤ i → after_reads (n - i) c ≡ c
unfolding after_reads
read_done n i c h =
    let e : n - i ≡ 0 = omega arith in
    ap (λ (k : ℕ). after_reads k c) e

-- the same of what they give, laid into the memory from place i on
pub lay_all : (lent : List ℕ) (c : Controller) → laid (values_read (length lent) c) lent ≡ values_read (length lent) c
unfolding laid values_read
lay_all [] c = refl
lay_all (y ∷ lent) c = ap (λ (l : List ℕ). (read_of c 1).value ∷ l) (lay_all lent (read_of c 1).next)

pub lay_one : (n i : ℕ) (c next : Controller) (value : ℕ) (lent : List ℕ) → Gives (read_of c 1) next value → i < n → length lent ≡ n →
    laid_at (i + 1) (values_read (n - (i + 1)) next) (set lent i value) ≡ laid_at i (values_read (n - i) c) lent
unfolding values_read
lay_one n i c next value lent g h l =
    let e : n - i ≡ suc (n - (i + 1)) = omega arith in
    one_more i value (values_read (n - (i + 1)) next) lent (omega arith) ∙
    ap (λ (xs : List ℕ). laid_at i xs lent) (cc (g.0, g.1, ap (λ (k : ℕ). values_read k c) e))

pub lay_done : (n i : ℕ) (c : Controller) (lent : List ℕ) → n ≤ i → length lent ≡ n → laid_at i (values_read (n - i) c) lent ≡ lent
lay_done n i c lent h l = past_end i _ lent (omega arith)
