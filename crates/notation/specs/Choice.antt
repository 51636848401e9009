-- How a rule is written: `when .. then .. else ..` (a choice of two), `and`, `or`, and "is one of these numbers".
-- The tests `eqb`, `ltb` and `leb` are the library's: equal, below, at most.
use Rattle.std.specs.Prelude.{Bool, true, false, List, [], ◌∷◌, ℕ, eqb}

infixr 5 when◌then◌else◌
infixr 25 ◌or◌
infixr 30 ◌and◌
unfoldable pub when◌then◌else◌ : {A : Type 0} → Bool → A → A → A
when◌then◌else◌ true x y = x
when◌then◌else◌ false x y = y

unfoldable pub ◌and◌ : Bool → Bool → Bool
◌and◌ true b = b
◌and◌ false b = false

unfoldable pub ◌or◌ : Bool → Bool → Bool
◌or◌ true b = true
◌or◌ false b = b

-- x is one of the numbers listed
unfoldable pub among : ℕ → List ℕ → Bool
among x [] = false
among x (k ∷ ks) = when eqb x k then true else among x ks
