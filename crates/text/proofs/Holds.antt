-- Text put after text: what two calls put is what one would have put. Assumes nothing.
use mathlib.Core.Bool.{Bool, true, false}
use mathlib.Core.List.{List, [], ◌∷◌, ◌++◌}
use mathlib.Core.Path.{◌≡◌, refl, sym, ap, subst, ◌∙◌}
use Prim.Native.Nat.{ℕ, suc, ◌+◌, ◌≤◌, ◌<◌, min}
use native.Mathlib.Omega.{arith}
use borrow.Author.Tests.{le-ltb, ltb-true, ltb-false}
use lib.Dec.{ltb}
use lib.ListN.{length, take, drop, set, length-append, length-set, take-append-drop}
use Rattle.std.proofs.lemmas.List.{take_more}
use Rattle.text.specs.Text.{place_after, Holds}
use Rattle.notation.proofs.Overlay.{none as laid_none, past_end, one_more}
use Rattle.notation.specs.Overlay.{laid, laid_at}
use Rattle.notation.proofs.Cases.{when-false, split}

-- a case for each outcome of a test
either : (P : Type 0) (a b : ℕ) → (a < b → P) → (b ≤ a → P) → P
either P a b f g = go (ltb a b) refl
  where
    go : (t : Bool) → ltb a b ≡ t → P
    go true e = f (ltb-true a b e)
    go false e = g (ltb-false a b e)

-- within the memory, and past its end
pub place_min : (at n room : ℕ) → at ≤ room → place_after at n room ≡ min (at + n) room
unfolding place_after
place_min at n room h =
    let P : ℕ → Type 0 = λ r. r ≡ min (at + n) room in
    split P (ltb (at + n) room) (at + n) _ (λ e. omega (arith, ltb-true (at + n) room e))
    (λ e. split P (ltb at room) room at (λ _. omega (arith, ltb-false (at + n) room e)) (λ f. omega (arith, ltb-false at room f)))

pub place-past : (at n room : ℕ) → room ≤ at → place_after at n room ≡ at
unfolding place_after
place-past at n room h = when-false _ _ _ (le-ltb (at + n) room (omega arith)) ∙ when-false _ _ _ (le-ltb at room h)

pub place_none : (at room : ℕ) → place_after at 0 room ≡ at
place_none at room =
    either _ at room (λ h. let e = place_min at 0 room (omega arith) in omega arith) (λ h. place-past at 0 room h)

place-one : (at n room : ℕ) → at < room → place_after at (suc n) room ≡ place_after (at + 1) n room
place-one at n room h = let e = place_min at (suc n) room (omega arith) in let f = place_min (at + 1) n room (omega arith) in omega arith

pub place-place : (at m n room : ℕ) → place_after (place_after at m room) n room ≡ place_after at (m + n) room
place-place at m n room = either _ at room inside past
  where
    inside : at < room → place_after (place_after at m room) n room ≡ place_after at (m + n) room
    inside h =
        let e = place_min at m room (omega arith) in
        let f = place_min (place_after at m room) n room (omega arith) in
        let g = place_min at (m + n) room (omega arith) in
        omega arith

    past : room ≤ at → place_after (place_after at m room) n room ≡ place_after at (m + n) room
    past h = ap (λ (k : ℕ). place_after k n room) (place-past at m room h) ∙ place-past at n room h ∙ sym (place-past at (m + n) room h)

pub laid-length : (xs lent : List ℕ) → length (laid xs lent) ≡ length lent
unfolding laid
laid-length [] lent = refl
laid-length (x ∷ xs) [] = refl
laid-length (x ∷ xs) (y ∷ lent) = ap suc (laid-length xs lent)

-- the memory keeps its length
pub keeps : (at : ℕ) (xs lent : List ℕ) → length (laid_at at xs lent) ≡ length lent
unfolding laid_at
keeps at xs lent =
    length-append (take at lent) _ ∙ ap (λ (n : ℕ). length (take at lent) + n) (laid-length xs (drop at lent))
    ∙ sym (length-append (take at lent) (drop at lent))
    ∙ ap (λ (l : List ℕ). length l) (take-append-drop at lent)

module _ (at x : ℕ) (xs ys lent : List ℕ) where
  abbrev Joins : Type 0
  Joins = laid_at (place_after at (suc (length xs)) (length lent)) ys (laid_at at (x ∷ xs) lent) ≡ laid_at at (x ∷ (xs ++ ys)) lent

  inside : at < length lent →
      laid_at (place_after (at + 1) (length xs) (length (set lent at x))) ys (laid_at (at + 1) xs (set lent at x))
      ≡ laid_at (at + 1) (xs ++ ys) (set lent at x) →
      Joins
  inside h rest =
      let e : place_after at (suc (length xs)) (length lent) ≡ place_after (at + 1) (length xs) (length (set lent at x)) =
      place-one at (length xs) (length lent) h ∙ ap (λ (n : ℕ). place_after (at + 1) (length xs) n) (sym (length-set lent at x)) in
      ap (λ (k : ℕ). laid_at k ys (laid_at at (x ∷ xs) lent)) e
      ∙ ap (λ (l : List ℕ). laid_at (place_after (at + 1) (length xs) (length (set lent at x))) ys l) (sym (one_more at x xs lent h))
      ∙ rest
      ∙ one_more at x (xs ++ ys) lent h

  past : length lent ≤ at → Joins
  past h =
      ap (λ (k : ℕ). laid_at k ys (laid_at at (x ∷ xs) lent)) (place-past at (suc (length xs)) (length lent) h)
      ∙ ap (λ (l : List ℕ). laid_at at ys l) (past_end at (x ∷ xs) lent h)
      ∙ past_end at ys lent h
      ∙ sym (past_end at (x ∷ (xs ++ ys)) lent h)

pub laid-laid : (at : ℕ) (xs ys lent : List ℕ) →
    laid_at (place_after at (length xs) (length lent)) ys (laid_at at xs lent) ≡ laid_at at (xs ++ ys) lent
laid-laid at [] ys lent =
    ap (λ (k : ℕ). laid_at k ys (laid_at at [] lent)) (place_none at (length lent)) ∙ ap (λ (l : List ℕ). laid_at at ys l) (laid_none at lent)
laid-laid at (x ∷ xs) ys lent =
    either _ at (length lent) (λ h. inside at x xs ys lent h (laid-laid (at + 1) xs ys (set lent at x))) (λ h. past at x xs ys lent h)

-- nothing put
pub none : (at : ℕ) (lent : List ℕ) → Holds at [] lent lent at
none at lent = (sym (laid_none at lent), sym (place_none at (length lent)))

-- one byte put, at a place that there is and at one that there is not
pub one_laid : (at x : ℕ) (lent : List ℕ) → at < length lent → laid_at at (x ∷ []) lent ≡ set lent at x
one_laid at x lent h = sym (one_more at x [] lent h) ∙ laid_none (at + 1) (set lent at x)

pub one_place : (at room : ℕ) → at < room → place_after at 1 room ≡ at + 1
one_place at room h = place-one at 0 room h ∙ place_none (at + 1) room

pub one : (at x : ℕ) (lent : List ℕ) → at < length lent → Holds at (x ∷ []) lent (set lent at x) (at + 1)
one at x lent h = (sym (one_laid at x lent h), sym (one_place at (length lent) h))

pub left_out : (at : ℕ) (xs lent : List ℕ) → length lent ≤ at → Holds at xs lent lent at
left_out at xs lent h = (sym (past_end at xs lent h), sym (place-past at (length xs) (length lent) h))

-- a text, and another after it
pub chain : (at : ℕ) (xs ys first : List ℕ) {mid next : ℕ} {second third : List ℕ} →
    Holds at xs first second mid → Holds mid ys second third next → Holds at (xs ++ ys) first third next
chain at xs ys first {mid} {next} {second} h k =
    let n : length second ≡ length first = ap (λ (l : List ℕ). length l) h.0 ∙ keeps at xs first in (
      k.0
          ∙ ap (λ (i : ℕ). laid_at i ys second) h.1
          ∙ ap (λ (l : List ℕ). laid_at (place_after at (length xs) (length first)) ys l) h.0
          ∙ laid-laid at xs ys first,
      k.1
          ∙ ap (λ (i : ℕ). place_after i (length ys) (length second)) h.1
          ∙ ap (λ (r : ℕ). place_after (place_after at (length xs) (length first)) (length ys) r) n
          ∙ place-place at (length xs) (length ys) (length first)
          ∙ ap (λ (m : ℕ). place_after at m (length first)) (sym (length-append xs ys)),
    )

-- the same text, said otherwise
pub said : (at : ℕ) (xs ys before : List ℕ) {next : ℕ} {after : List ℕ} → xs ≡ ys →
    Holds at xs before after next → Holds at ys before after next
said at xs ys before {next} {after} e h = subst (λ (l : List ℕ). Holds at l before after next) e h

pub same_room : (at : ℕ) (xs : List ℕ) {next : ℕ} (before : List ℕ) {after : List ℕ} → Holds at xs before after next →
    length after ≡ length before
same_room at xs before h = ap (λ (l : List ℕ). length l) h.0 ∙ keeps at xs before

-- text that starts within the memory ends within it
pub within : (at : ℕ) (xs : List ℕ) {next : ℕ} (before : List ℕ) {after : List ℕ} → at ≤ length before →
    Holds at xs before after next → next ≤ length after
within at xs before h e = omega (arith, e.1, place_min at (length xs) (length before) h, same_room at xs before e)

-- what `put` needs
pub ruleset one_byte = (one_laid, one_place, past_end, place-past)

-- what a function that puts text after text needs
pub ruleset joins = (laid-laid, place-place, keeps, length-append, laid_none, place_none, take_more)
