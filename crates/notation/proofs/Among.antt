-- "Is one of these numbers", from what an arm of a `match` knows. `OneOf ks x` is what the arm `k | k' => ..` of a match on x says.
-- Assumes nothing.
use mathlib.Core.Bool.{Bool, true, false, not, true≢false, false≢true}
use mathlib.Core.List.{List, [], ◌∷◌}
use mathlib.Core.Logic.{inl, inr}
use mathlib.Core.Path.{◌≡◌, refl, sym, ap, ◌∙◌}
use Prim.Native.Nat.{ℕ}
use borrow.Author.Tests.{eqb-true, ne_eqb}
use lib.Dec.{T, eqb}
use types.Run.{OneOf}
use Rattle.notation.specs.Choice.{when◌then◌else◌, among}
use Rattle.notation.proofs.Cases.{when-false}

-- `among` as a test that computes on numerals with nothing unfolded
abbrev pub has : List ℕ → ℕ → Bool
has [] x = false
has (k ∷ ks) x = elim (eqb x k) [ true ↦ true | false ↦ has ks x ]

abbrev pub every : (ℕ → Bool) → List ℕ → Bool
every f [] = true
every f (k ∷ ks) = elim (f k) [ true ↦ every f ks | false ↦ false ]

abbrev pub same : Bool → Bool → Bool
same true v = v
same false v = not v

pub is_same : (a b : Bool) → T (same a b) → a ≡ b
is_same true true t = refl
is_same true false t = absurd t
is_same false true t = absurd t
is_same false false t = refl

pub is_true : (b : Bool) → T b → b ≡ true
is_true true t = refl
is_true false t = absurd t

every_head : (f : ℕ → Bool) (k : ℕ) (ks : List ℕ) → T (every f (k ∷ ks)) → T (f k)
every_head f k ks t = go (f k) t
  where
    go : (b : Bool) → T (elim b [ true ↦ every f ks | false ↦ false ]) → T b
    go true s = tt
    go false s = s

every_tail : (f : ℕ → Bool) (k : ℕ) (ks : List ℕ) → T (every f (k ∷ ks)) → T (every f ks)
every_tail f k ks t = go (f k) t
  where
    go : (b : Bool) → T (elim b [ true ↦ every f ks | false ↦ false ]) → T (every f ks)
    go true s = s
    go false s = absurd s

pub among-has : (x : ℕ) (ls : List ℕ) → among x ls ≡ has ls x
unfolding among when◌then◌else◌
among-has x [] = refl
among-has x (k ∷ ks) = step (eqb x k) (among-has x ks)
  where
    step : (b : Bool) → among x ks ≡ has ks x → (when b then true else among x ks) ≡ elim b [ true ↦ true | false ↦ has ks x ]
    step true e = refl
    step false e = e

-- every entry of a list passes a test, so one of them does
pub passes : (f : ℕ → Bool) (v : Bool) (ks : List ℕ) (x : ℕ) → OneOf ks x → T (every (λ k. same (f k) v) ks) → f x ≡ v
passes f v [] x h t = absurd h
passes f v (k ∷ []) x h t = ap f h ∙ is_same (f k) v (every_head (λ k. same (f k) v) k [] t)
passes f v (k ∷ j ∷ ks) x (inl h) t = ap f h ∙ is_same (f k) v (every_head (λ k. same (f k) v) k (j ∷ ks) t)
passes f v (k ∷ j ∷ ks) x (inr h) t = passes f v (j ∷ ks) x h (every_tail (λ k. same (f k) v) k (j ∷ ks) t)

-- x is in the list ls, or is not: each of the arm's numbers is, or is not
pub keys_in : (ks : List ℕ) (x : ℕ) → OneOf ks x → (v : Bool) (ls : List ℕ) → T (every (λ k. same (has ls k) v) ks) → among x ls ≡ v
keys_in ks x h v ls t = among-has x ls ∙ passes (has ls) v ks x h t

-- the default arm: x is none of the keys that an earlier arm has
pub none_of : (ks : List ℕ) (x : ℕ) → (OneOf ks x → ⊥) → among x ks ≡ false
unfolding among
none_of [] x n = refl
none_of (k ∷ []) x n = when-false (eqb x k) true (among x []) (ne_eqb x k n) ∙ refl
none_of (k ∷ j ∷ ks) x n = when-false (eqb x k) true (among x (j ∷ ks)) (ne_eqb x k (λ e. n (inl e))) ∙ none_of (j ∷ ks) x (λ e. n (inr e))

-- the arm of one number
pub key_is : (k x : ℕ) → x ≡ k → (v : Bool) (j : ℕ) → eqb k j ≡ v → eqb x j ≡ v
key_is k x e v j h = ap (λ (n : ℕ). eqb n j) e ∙ h

-- a list within another
pub within : (x : ℕ) (ks ls : List ℕ) → T (every (has ls) ks) → among x ks ≡ true → among x ls ≡ true
unfolding among
within x [] ls t e = absurd (false≢true e)
within x (k ∷ ks) ls t e = step (eqb x k) refl (within x ks ls (every_tail (has ls) k ks t))
  where
    step : (b : Bool) → eqb x k ≡ b → (among x ks ≡ true → among x ls ≡ true) → among x ls ≡ true
    step true q later = among-has x ls ∙ ap (has ls) (eqb-true x k q) ∙ is_true (has ls k) (every_head (has ls) k ks t)
    step false q later = later (sym (when-false (eqb x k) true (among x ks) q) ∙ e)

pub without : (x : ℕ) (ks ls : List ℕ) → T (every (has ls) ks) → among x ls ≡ false → among x ks ≡ false
without x ks ls t e = step (among x ks) refl
  where
    step : (b : Bool) → among x ks ≡ b → among x ks ≡ false
    step true q = absurd (true≢false (sym (within x ks ls t q) ∙ e))
    step false q = q

-- being one of these numbers, as what an arm of a match knows
pub one_of : (ks : List ℕ) (x : ℕ) → among x ks ≡ true → OneOf ks x
unfolding among
one_of [] x e = absurd (false≢true e)
one_of (k ∷ []) x e = step (eqb x k) refl
  where
    step : (b : Bool) → eqb x k ≡ b → x ≡ k
    step true q = eqb-true x k q
    step false q = absurd (false≢true (sym (when-false (eqb x k) true (among x []) q) ∙ e))
one_of (k ∷ j ∷ ks) x e = step (eqb x k) refl (one_of (j ∷ ks) x)
  where
    step : (b : Bool) → eqb x k ≡ b → (among x (j ∷ ks) ≡ true → OneOf (j ∷ ks) x) → OneOf (k ∷ j ∷ ks) x
    step true q later = inl (eqb-true x k q)
    step false q later = inr (later (sym (when-false (eqb x k) true (among x (j ∷ ks)) q) ∙ e))

-- a number of one list is none of another that shares nothing with it
pub apart : (x : ℕ) (ks ls : List ℕ) → T (every (λ k. same (has ls k) false) ks) → among x ks ≡ true → among x ls ≡ false
apart x ks ls t e = keys_in ks x (one_of ks x e) false ls t

pub clash : {A : Type 0} (x : ℕ) (ks ls : List ℕ) → T (every (λ k. same (has ls k) false) ks) → among x ks ≡ true → among x ls ≡ true → A
clash x ks ls t e f = absurd (true≢false (sym f ∙ apart x ks ls t e))
