-- The table agrees with the rules at every entry, by one test that is computed over all of it. Assumes nothing.
use mathlib.Core.List.{List, [], ◌∷◌, map}
use mathlib.Core.Path.{◌≡◌, refl, sym, ap, ◌∙◌}
use Prim.Native.Nat.{ℕ, zero, suc, ◌*◌, ◌<◌}
use native.Mathlib.Nat.{le_of_suc-le-suc, not-suc-le-zero}
use lib.ListN.{get_or, get_or-map}
use Rattle.responses.specs.Entry.{names}
use Rattle.responses.specs.Table.{entry_at, pattern_of, Agrees}
use Rattle.responses.specs.declared.entry.Entry.{Entry}

-- f at 0, 1 and so on, n of them
abbrev tabulate : {A : Type 0} → ℕ → (ℕ → A) → List A
tabulate zero f = []
tabulate (suc n) f = f zero ∷ tabulate n (λ i. f (suc i))

at_place : {A : Type 0} (n : ℕ) (f : ℕ → A) (other : A) (k : ℕ) → k < n → get_or (tabulate n f) k other ≡ f k
at_place zero f other k h = absurd (not-suc-le-zero h)
at_place (suc n) f other zero h = refl
at_place (suc n) f other (suc k) h = at_place n (λ i. f (suc i)) other k (le_of_suc-le-suc h)

-- the entries that the rules give in a row, sixteen of them
abbrev row_given : ℕ → List Entry
row_given row = tabulate 16 (λ column. entry_at (row * 8) (pattern_of column))

-- the test over all 512: every number of the table names the entry that the rules give in its place. (Both sides compute, so `refl` passes it.)
abbrev pub AllNamed : List (List ℕ) → Type 0
AllNamed rows = map (map names) rows ≡ tabulate 32 row_given

-- from the test to the rule at every entry
pub agrees : (rows : List (List ℕ)) → AllNamed rows → Agrees rows
unfolding Agrees
agrees rows t row column h g =
    let same = sym (get_or-map (map names) rows row []) ∙ ap (λ (l : List (List Entry)). get_or l row []) t ∙ at_place 32 row_given [] row h in
    sym (get_or-map names (get_or rows row []) column 0) ∙ ap (λ (l : List Entry). get_or l column (names 0)) same ∙
    at_place 16 (λ i. entry_at (row * 8) (pattern_of i)) (names 0) column g
