-- One group of a trace, or the lack of one: what it makes of the definitions. Assumes nothing.
use mathlib.Core.Bool.{Bool, true, false, not}
use mathlib.Core.List.{List, [], ◌∷◌, ◌++◌}
use mathlib.Core.Path.{◌≡◌, refl, sym, ap, ◌∙◌}
use Prim.Native.Nat.{ℕ, zero, suc, ◌+◌, ◌-◌, ◌*◌, ◌/◌, ◌%◌, ◌<◌, ◌≤◌}
use native.Mathlib.Nat.{le_of_suc-le-suc, not-suc-le-zero}
use native.Mathlib.Omega.{arith}
use borrow.Author.Tests.{lt-ltb, le-ltb}
use lib.ListN.{length, take, drop, get_or, length-drop}
use lib.Seq.{drop-drop, get_or-take, get_or-drop}
use borrow.Rule.Slice.PartMut.{put_mid}
use Rattle.notation.proofs.Laid.{laid_at-length}
use Rattle.notation.specs.Overlay.{laid_at}
use Rattle.perlovasta.proofs.Places.{copied_eight, after_eight}
use Rattle.std.proofs.Common.{IsTrue, IsFalse}
use Rattle.std.specs.Simd.{first_chunks}
use Rattle.controller.specs.Record.{sound}
use Rattle.controller.specs.Reply.{Outcome}
use Rattle.controller.specs.declared.record.Controller.{Controller}
use Rattle.notation.proofs.Lists.{drop-one}
use Rattle.laws.proofs.Soundness.{read-stays-sound, write-stays-sound, event-stays-sound}
use Rattle.notation.proofs.Cases.{split, or_left, or_right, or-false}
use Rattle.requests.specs.Groups.{group_of}
use Rattle.perlovasta.specs.Log.{entry_of}
use Rattle.perlovasta.specs.Trace.{bad_trace, log_of}

-- the bytes are no whole groups
pub bad_cut : (xs : List ℕ) → (length xs % 3 ≡ 0 → ⊥) → bad_trace xs ≡ true
unfolding bad_trace
bad_cut [] h = absurd (h refl)
bad_cut (x ∷ []) h = refl
bad_cut (x ∷ y ∷ []) h = refl
bad_cut (x ∷ y ∷ z ∷ xs) h = or_right _ _ (bad_cut xs (λ e. h (omega (arith, e))))

-- the group at k is of another kind
pub bad_kind : (xs : List ℕ) (k : ℕ) → length xs % 3 ≡ 0 → k * 3 < length xs → 2 < get_or xs (k * 3) 0 → bad_trace xs ≡ true
unfolding bad_trace
bad_kind [] k e h more = absurd (not-suc-le-zero h)
bad_kind (x ∷ []) k e h more = refl
bad_kind (x ∷ y ∷ []) k e h more = refl
bad_kind (x ∷ y ∷ z ∷ xs) zero e h more = or_left _ _ (lt-ltb 2 x more)
bad_kind (x ∷ y ∷ z ∷ xs) (suc k) e h more =
    let next : suc k * 3 ≡ suc (suc (suc (k * 3))) = omega arith in
    or_right _ _ (bad_kind xs k (omega (arith, e)) (omega (arith, h)) (rw next at more))

-- every group is of a kind 0 to 2
pub bad_not : (xs : List ℕ) → length xs % 3 ≡ 0 → ((k : ℕ) → k * 3 < length xs → get_or xs (k * 3) 0 ≤ 2) → bad_trace xs ≡ false
unfolding bad_trace
bad_not [] e fine = refl
bad_not (x ∷ []) e fine = absurd (omega (arith, e))
bad_not (x ∷ y ∷ []) e fine = absurd (omega (arith, e))
bad_not (x ∷ y ∷ z ∷ xs) e fine =
    let next : (k : ℕ) → suc k * 3 ≡ suc (suc (suc (k * 3))) = λ k. omega arith in
    or-false _ _ (le-ltb 2 x (fine 0 (omega arith)))
    (bad_not xs (omega (arith, e)) (λ k h. let more : suc k * 3 < length (x ∷ y ∷ z ∷ xs) = omega (arith, h) in rw next at (fine (suc k) more)))

-- what a test of all groups told
pub bad_known : (xs : List ℕ) (known : Bool) → length xs % 3 ≡ 0 →
    (IsTrue known → (k : ℕ) → k * 3 < length xs → get_or xs (k * 3) 0 ≤ 2) →
    (IsFalse known → (k : ℕ) × (k * 3 < length xs) × (2 < get_or xs (k * 3) 0)) → not known ≡ bad_trace xs
bad_known xs true e known strange = sym (bad_not xs e (known refl))
bad_known xs false e known strange = let at = strange refl in sym (bad_kind xs at.0 e at.1 at.2)

short : (c : Controller) (xs : List ℕ) → length xs < 3 → log_of c xs ≡ []
unfolding log_of
short c [] h = refl
short c (x ∷ []) h = refl
short c (x ∷ y ∷ []) h = refl
short c (x ∷ y ∷ z ∷ xs) h = absurd (not-suc-le-zero (le_of_suc-le-suc (le_of_suc-le-suc (le_of_suc-le-suc h))))

-- a group leaves a sound record sound
pub sound_group : (c : Controller) (kind place value : ℕ) → sound c ≡ true → sound (group_of c kind place value).next ≡ true
unfolding group_of
sound_group c kind place value s =
    split P _ _ _ (λ _. read-stays-sound c place s)
    (λ _. split P _ _ _ (λ _. write-stays-sound c place value s) (λ _. event-stays-sound c place value s))
  where
    P : Outcome → Type 0
    P o = sound o.next ≡ true

-- a group has eight bytes of the log
pub entry_eight : (o : Outcome) → length (entry_of o) ≡ 8
unfolding entry_of
entry_eight o = refl

-- the group at i, of three bytes
pub group_at : (n i : ℕ) (xs : List ℕ) (d : List ℕ) → i < n → get_or (first_chunks 3 n xs) i d ≡ take 3 (drop (3 * i) xs)
group_at zero i xs d h = absurd (not-suc-le-zero h)
group_at (suc n) zero xs d h = refl
group_at (suc n) (suc i) xs d h =
    let next : 3 + 3 * i ≡ 3 * suc i = omega arith in
    group_at n i (drop 3 xs) d (omega (arith, h)) ∙ ap (take 3) (drop-drop (3 * i) 3 xs ∙ ap (λ (k : ℕ). drop k xs) next)

module _ (trace : List ℕ) (i : ℕ) where
  pub log_none : (c : Controller) → length trace - i < 3 → log_of c (drop i trace) ≡ []
  log_none c h = short c (drop i trace) (omega (arith, length-drop i trace))

  module _ (more : i + 2 < length trace) where
    three : drop i trace ≡ get_or trace i 0 ∷ get_or trace (i + 1) 0 ∷ get_or trace (i + 2) 0 ∷ drop (i + 3) trace
    three =
        let second : i + 1 + 1 ≡ i + 2 = omega arith in
        let third : i + 2 + 1 ≡ i + 3 = omega arith in
        drop-one trace i (omega (arith, more))
        ∙ ap (λ (l : List ℕ). get_or trace i 0 ∷ l) (drop-one trace (i + 1) (omega (arith, more))
        ∙ ap (λ (k : ℕ). get_or trace (i + 1) 0 ∷ drop k trace) second
        ∙ ap (λ (l : List ℕ). get_or trace (i + 1) 0 ∷ l) (drop-one trace (i + 2) more ∙ ap (λ (k : ℕ). get_or trace (i + 2) 0 ∷ drop k trace) third))

    pub log_group : (c : Controller) →
        let o = group_of c (get_or trace i 0) (get_or trace (i + 1) 0) (get_or trace (i + 2) 0) in
        log_of c (drop i trace) ≡ entry_of o ++ log_of o.next (drop (i + 3) trace)
    unfolding log_of
    log_group c = ap (λ (l : List ℕ). log_of c l) three

-- the group at i is worked and its entry put: what is left of the log, laid after it, is what was left before, laid from its place on
module _ (trace : List ℕ) (i : ℕ) (inside : i < length trace / 3) where
  abbrev pub byte : ℕ → ℕ
  byte j = get_or (get_or (first_chunks 3 (length trace / 3) trace) i []) j 0

  byte_is : (j : ℕ) → j < 3 → byte j ≡ get_or trace (3 * i + j) 0
  byte_is j h =
      ap (λ (l : List ℕ). get_or l j 0) (group_at (length trace / 3) i trace [] inside)
      ∙ get_or-take 3 (drop (3 * i) trace) j 0 h
      ∙ get_or-drop (3 * i) trace j 0

  module _ (c : Controller) (o : Outcome) (log entry : List ℕ) (k : ℕ) (worked : o ≡ group_of c (byte 0) (byte 1) (byte 2)) (put : entry ≡ entry_of o)
      (eight : k ≡ 8) (room : 8 * i + 8 ≤ length log) where
    asked : o ≡ group_of c (get_or trace (3 * i) 0) (get_or trace (3 * i + 1) 0) (get_or trace (3 * i + 2) 0)
    asked =
        let first : 3 * i + 0 ≡ 3 * i = omega arith in
        worked
        ∙ rw (byte_is 0 (omega arith), byte_is 1 (omega arith), byte_is 2 (omega arith)) (ap
        (λ (j : ℕ). group_of c (get_or trace j 0) (get_or trace (3 * i + 1) 0) (get_or trace (3 * i + 2) 0)) first)

    laid-there : put_mid (8 * i) k log entry ≡ laid_at (8 * i) entry log
    laid-there = copied_eight (8 * i) k entry log eight (ap length put ∙ entry_eight o) room

    pub same-length : length (put_mid (8 * i) k log entry) ≡ length log
    same-length = ap length laid-there ∙ laid_at-length (8 * i) entry log

    pub entry_put : laid_at (8 * (i + 1)) (log_of o.next (drop (3 * (i + 1)) trace)) (put_mid (8 * i) k log entry)
        ≡ laid_at (8 * i) (log_of c (drop (3 * i) trace)) log
    entry_put =
        let at : 8 * (i + 1) ≡ 8 * i + 8 = omega arith in
        let from : 3 * (i + 1) ≡ 3 * i + 3 = omega arith in
        let more : 3 * i + 2 < length trace = omega (arith, inside) in
        rw (at, from) (after_eight (8 * i) entry (log_of o.next (drop (3 * i + 3) trace)) log _ (ap length put ∙ entry_eight o) laid-there)
        ∙ ap (λ (xs : List ℕ). laid_at (8 * i) (xs ++ log_of o.next (drop (3 * i + 3) trace)) log) put
        ∙ ap (λ (x : Outcome). laid_at (8 * i) (entry_of x ++ log_of x.next (drop (3 * i + 3) trace)) log) asked
        ∙ sym (ap (λ (xs : List ℕ). laid_at (8 * i) xs log) (log_group trace (3 * i) more c))
