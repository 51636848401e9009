-- What the first i elements print, and one more. Assumes nothing.
use mathlib.Core.List.{List, [], ◌∷◌, ◌++◌, append_assoc, append-nil}
use mathlib.Core.Path.{◌≡◌, refl, sym, ap, ◌∙◌}
use Prim.Native.Nat.{ℕ, ◌+◌, ◌<◌}
use native.Mathlib.Numerals.{add-one}
use lib.ListN.{length, take, get_or}
use lib.Seq.{take-suc}
use Rattle.text.specs.Text.{hex_of, listed}

pub word_one : (xs : List ℕ) (i : ℕ) → i < length xs → take i xs ++ (get_or xs i 0 ∷ []) ≡ take (i + 1) xs
word_one xs i h = sym (ap (λ (k : ℕ). take k xs) (add-one i) ∙ take-suc xs i 0 h)

listed_join : (xs ys : List ℕ) → listed (xs ++ ys) ≡ listed xs ++ listed ys
unfolding listed
listed_join [] ys = refl
listed_join (x ∷ xs) ys =
    ap (λ (l : List ℕ). 32 ∷ l) (ap (λ (l : List ℕ). hex_of x ++ l) (listed_join xs ys) ∙ sym (append_assoc (hex_of x) (listed xs) (listed ys)))

listed-single : (x : ℕ) → listed (x ∷ []) ≡ (32 ∷ []) ++ hex_of x
unfolding listed
listed-single x = ap (λ (l : List ℕ). 32 ∷ l) (append-nil (hex_of x))

pub listed-one : (xs : List ℕ) (i : ℕ) → i < length xs → listed (take i xs) ++ ((32 ∷ []) ++ hex_of (get_or xs i 0)) ≡ listed (take (i + 1) xs)
listed-one xs i h =
    ap (λ (l : List ℕ). listed (take i xs) ++ l) (sym (listed-single (get_or xs i 0)))
    ∙ sym (listed_join (take i xs) (get_or xs i 0 ∷ []))
    ∙ ap listed (word_one xs i h)

pub listed-none : listed [] ≡ []
unfolding listed
listed-none = refl

-- what a function that lists bytes needs
pub ruleset listing = (listed-one, listed-none)
