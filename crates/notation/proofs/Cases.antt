-- What a test's outcome makes of a rule. `search cases` closes most returns of a function that tests what its rule tests.
-- Assumes nothing.
use mathlib.Core.Bool.{Bool, true, false, true≢false, false≢true}
use mathlib.Core.Path.{◌≡◌, refl, sym, ◌∙◌}
use borrow.Author.Rules.{rules}
use borrow.Author.Tests.{lt-ltb, le-ltb, le-leb, lt-leb, eq-eqb, ne_eqb}
use Rattle.notation.specs.Choice.{when◌then◌else◌, ◌and◌, ◌or◌}

pub when-true : {A : Type 0} (b : Bool) (x y : A) → b ≡ true → (when b then x else y) ≡ x
unfolding when◌then◌else◌
when-true b x y e = simp e

pub when-false : {A : Type 0} (b : Bool) (x y : A) → b ≡ false → (when b then x else y) ≡ y
unfolding when◌then◌else◌
when-false b x y e = simp e

pub and-true : (a b : Bool) → a ≡ true → b ≡ true → (a and b) ≡ true
unfolding ◌and◌
and-true a b p q = simp (p, q)

pub and_no_left : (a b : Bool) → a ≡ false → (a and b) ≡ false
unfolding ◌and◌
and_no_left a b p = simp p

pub and_no_right : (a b : Bool) → b ≡ false → (a and b) ≡ false
unfolding ◌and◌
and_no_right true b p = p
and_no_right false b p = refl

pub or_left : (a b : Bool) → a ≡ true → (a or b) ≡ true
unfolding ◌or◌
or_left a b p = simp p

pub or_right : (a b : Bool) → b ≡ true → (a or b) ≡ true
unfolding ◌or◌
or_right true b p = refl
or_right false b p = p

pub or-false : (a b : Bool) → a ≡ false → b ≡ false → (a or b) ≡ false
unfolding ◌or◌
or-false a b p q = simp (p, q)

pub and-on : (a b : Bool) → a ≡ true → (a and b) ≡ b
unfolding ◌and◌
and-on a b p = simp p

pub or-on : (a b : Bool) → a ≡ false → (a or b) ≡ b
unfolding ◌or◌
or-on a b p = simp p

-- a callee's result, which is the test s, was seen to be v
pub by_call : {r : Bool} (s v : Bool) → r ≡ s → r ≡ v → s ≡ v
by_call s v e t = sym e ∙ t

pub and_left : (a b : Bool) → (a and b) ≡ true → a ≡ true
unfolding ◌and◌
and_left true b e = refl
and_left false b e = e

pub and_right : (a b : Bool) → (a and b) ≡ true → b ≡ true
unfolding ◌and◌
and_right true b e = e
and_right false b e = absurd (false≢true e)

pub or-left-off : (a b : Bool) → (a or b) ≡ false → a ≡ false
unfolding ◌or◌
or-left-off true b e = e
or-left-off false b e = refl

pub or_right_off : (a b : Bool) → (a or b) ≡ false → b ≡ false
unfolding ◌or◌
or_right_off true b e = absurd (true≢false e)
or_right_off false b e = e

-- a rule is proved by its two branches, each knowing the test's outcome
pub split : {A : Type 0} (P : A → Type 0) (b : Bool) (x y : A) → (b ≡ true → P x) → (b ≡ false → P y) → P (when b then x else y)
unfolding when◌then◌else◌
split P true x y f g = f refl
split P false x y f g = g refl

pub ruleset comparisons = (lt-ltb, le-ltb, le-leb, lt-leb, eq-eqb, ne_eqb)

pub ruleset cases = (when-true, when-false, and-true, and_no_left, and_no_right, or_left, or_right, or-false, and-on, or-on, comparisons, rules)

-- the same where a test is a call
pub ruleset calls = (by_call, cases)
