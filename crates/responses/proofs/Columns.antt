-- The flags of the column of some flags are theirs but for ENSIO, at which the entry does not look. Assumes nothing.
use mathlib.Core.Bool.{Bool, true, false}
use mathlib.Core.Path.{◌≡◌, refl, ap, ◌∙◌}
use Prim.Native.Nat.{ℕ, ◌+◌}
use Rattle.control.specs.Flags.{weighs}
use Rattle.control.specs.Writing.{responds_at, end_or}
use Rattle.control.specs.declared.flags.Control.{Control}
use Rattle.notation.specs.Choice.{when◌then◌else◌}
use Rattle.responses.specs.Table.{column_of, pattern_of, entry_at}

column_pattern : (sta sto aa mode : Bool) →
    pattern_of (weighs sta 8 + weighs sto 4 + weighs aa 2 + weighs mode 1) ≡ record { aa = aa; ensio = true; sta = sta; sto = sto; mode = mode }
unfolding pattern_of weighs when◌then◌else◌
column_pattern true true true true = refl
column_pattern true true true false = refl
column_pattern true true false true = refl
column_pattern true true false false = refl
column_pattern true false true true = refl
column_pattern true false true false = refl
column_pattern true false false true = refl
column_pattern true false false false = refl
column_pattern false true true true = refl
column_pattern false true true false = refl
column_pattern false true false true = refl
column_pattern false true false false = refl
column_pattern false false true true = refl
column_pattern false false true false = refl
column_pattern false false false true = refl
column_pattern false false false false = refl

-- the table does not look at ENSIO
pub entry_column : (status : ℕ) (k : Control) → entry_at status (pattern_of (column_of k)) ≡ entry_at status k
unfolding column_of entry_at responds_at end_or
entry_column status k = ap (entry_at status) (column_pattern k.sta k.sto k.aa k.mode) ∙ refl
