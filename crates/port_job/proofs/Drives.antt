-- A list of accesses, made on the model one after the other, does what its acts do. Assumes nothing.
use mathlib.Core.Bool.{Bool, true, false}
use mathlib.Core.List.{List, [], ◌∷◌}
use mathlib.Core.Path.{◌≡◌, sym, ap, subst, ◌∙◌}
use Prim.Native.Nat.{ℕ, zero, suc, ◌+◌, ◌<◌}
use native.Mathlib.Numerals.{add-one}
use native.Mathlib.Omega.{arith}
use borrow.Author.Tests.{lt-ltb, le-ltb}
use lib.Dec.{T, ltb}
use lib.ListN.{length, drop, length-drop}
use Rattle.notation.proofs.Cases.{when-true, when-false}
use Rattle.notation.specs.Choice.{when◌then◌else◌}
use Rattle.port.specs.InHand.{nth}
use Rattle.port.specs.Port.{asking}
use Rattle.port_job.proofs.Settles.{Reaches, there, further}
use Rattle.port_job.specs.OnModel.{At, exchange, no_access}
use Rattle.service.specs.Act.{Act, writes, reads_data, reads_all, reads_count, counts, does, does_all}
use Rattle.service.specs.declared.progress.Progress.{Progress}

-- an act that is one access; one that is a write
abbrev pub single : Act → Bool
single (writes register value) = true
single (reads_data at) = true
single reads_all = false
single reads_count = true
single (counts count) = false

abbrev pub is_write : Act → Bool
is_write (writes register value) = true
is_write (reads_data at) = false
is_write reads_all = false
is_write reads_count = false
is_write (counts count) = false

-- every act of a list is such a one
abbrev pub Each : (Act → Bool) → List Act → Type 0
Each ok [] = Unit {0}
Each ok (x ∷ xs) = T (ok x) × Each ok xs

no_more : {A : Type 0} {x : Act} {rest : List Act} → ◌≡◌ {A = List Act} [] (x ∷ rest) → A
no_more e = absurd (let z : ◌≡◌ {A = ℕ} 0 1 = cc in omega arith)

-- the access in hand, and the others after it
nth_drop : (xs : List Act) (k : ℕ) {x : Act} {rest : List Act} → drop k xs ≡ x ∷ rest → nth xs k ≡ x
unfolding nth
nth_drop [] zero e = no_more e
nth_drop [] (suc k) e = no_more e
nth_drop (y ∷ []) zero e = cc
nth_drop (y ∷ []) (suc zero) e = no_more e
nth_drop (y ∷ []) (suc (suc k)) e = no_more e
nth_drop (y ∷ z ∷ zs) zero e = cc
nth_drop (y ∷ z ∷ zs) (suc k) e = nth_drop (z ∷ zs) k e

drop-next : (xs : List Act) (k : ℕ) {x : Act} {rest : List Act} → drop k xs ≡ x ∷ rest → drop (suc k) xs ≡ rest
drop-next [] zero e = no_more e
drop-next [] (suc k) e = no_more e
drop-next (y ∷ ys) zero e = cc
drop-next (y ∷ ys) (suc k) e = drop-next ys k e

-- the access with this number, from 0
abbrev pub Has : List Act → ℕ → Act → Type 0
Has xs made x = (nth xs made ≡ x) × (made < length xs)

-- The accesses in hand are these: where so many are made, the next is asked for, and after the last `end` is reached.
pub record Hand (ok : Act → Bool) (xs : List Act) (place end : ℕ → Progress → At) : Type 0 where
  pub asks : (x : Act) (made : ℕ) (p : Progress) → T (ok x) → Has xs made x → no_access (asking (place made p).port) ≡ false
  pub next : (x : Act) (made : ℕ) (p : Progress) → T (ok x) → length p.fetched ≡ 68 → Has xs made x →
      exchange (place made p) ≡ (when ltb (made + 1) (length xs) then place (made + 1) (does x p) else end made (does x p))
  pub notes : (x : Act) (p : Progress) → T (ok x) → length (does x p).fetched ≡ length p.fetched

-- so many accesses lead there
pub record Drives (k : ℕ) (s : At) (end : ℕ → Progress → At) (q : Progress) : Type 0 where
  pub last : ℕ
  pub reaches : Reaches k s (end last q)

module _ {ok : Act → Bool} {xs : List Act} {place end : ℕ → Progress → At} (h : Hand ok xs place end) where
  pub drives : (rest : List Act) (x : Act) (made : ℕ) (p : Progress) → drop made xs ≡ x ∷ rest → Each ok (x ∷ rest) → length p.fetched ≡ 68 →
      Drives (suc (length rest)) (place made p) end (does_all (x ∷ rest) p)
  unfolding does_all
  drives [] x made p e o l =
      let long = sym (length-drop made xs) ∙ ap length e in
      let n : Has xs made x = (nth_drop xs made e, omega arith) in
      let all_made = le-ltb (made + 1) (length xs) (omega arith) in
      record {
        last = made;
        reaches =
            further (h.asks x made p o.0 n)
            (subst (λ s. Reaches 0 s (end made (does x p))) (sym (h.next x made p o.0 l n ∙ when-false _ _ _ all_made)) there);
      }
  drives (y ∷ rest) x made p e o l =
      let long = sym (length-drop made xs) ∙ ap length e in
      let n : Has xs made x = (nth_drop xs made e, omega arith) in
      let more = lt-ltb (made + 1) (length xs) (omega arith) in
      let later = drives rest y (made + 1) (does x p) (rw add-one (drop-next xs made e)) o.1 (h.notes x p o.0 ∙ l) in
      record {
        last = later.last;
        reaches =
            further (h.asks x made p o.0 n)
            (subst (λ s. Reaches (suc (length rest)) s (end later.last (does_all (y ∷ rest) (does x p))))
            (sym (h.next x made p o.0 l n ∙ when-true _ _ _ more)) later.reaches);
      }
