-- `has_bad_pair` is `bad_pairs`: what is left of the settings has a bad pair where all of them have one, and a piece of under 2 is the last.
use mathlib.Core.Bool.{true, false, not}
use mathlib.Core.List.{List, [], ◌∷◌, ◌++◌}
use mathlib.Core.Path.{◌≡◌, refl, sym, ap, ◌∙◌}
use Prim.Native.Nat.{ℕ, ◌<◌, ◌≤◌, min}
use native.Mathlib.Omega.{arith}
use lib.ListN.{length, get_or}
use Rattle.notation.specs.Choice.{◌or◌, among}
use Rattle.port.specs.Begin.{settable, bad_pairs}
use Rattle.port.proofs.begin.has_bad_pair.Goals as goal
use Rattle.port.proofs.begin.has_bad_pair.Goals.{then-pair-lt2-via-then-pair-lt2, then-pair-lt2-via-else-pair-lt2+then-not-is_settable}

-- a pointer alone
lone : (xs rest : List ℕ) → length xs ≡ min 2 (length (xs ++ rest)) → 0 < length (xs ++ rest) → length xs < 2 → bad_pairs (xs ++ rest) ≡ true
unfolding bad_pairs
lone [] rest size some few = absurd (omega arith)
lone (x ∷ []) [] size some few = refl
lone (x ∷ []) (y ∷ ys) size some few = absurd (omega arith)
lone (x ∷ y ∷ ys) rest size some few = absurd (omega arith)

-- a pointer, its value, and the rest
pair : (xs rest : List ℕ) → length xs ≡ min 2 (length (xs ++ rest)) → 2 ≤ length xs →
    bad_pairs (xs ++ rest) ≡ (not (among (get_or xs 0 0) settable) or bad_pairs rest)
unfolding bad_pairs
pair [] rest size full = absurd (omega arith)
pair (x ∷ []) rest size full = absurd (omega arith)
pair (x ∷ y ∷ []) rest size full = refl
pair (x ∷ y ∷ z ∷ zs) rest size full = absurd (omega arith)

none : (xs : List ℕ) → length xs ≡ 0 → bad_pairs xs ≡ false
unfolding bad_pairs
none [] e = refl
none (x ∷ xs) e = absurd (omega arith)

pub returns-then-pair-lt2 : goal.returns-then-pair-lt2
unfolding ◌or◌
returns-then-pair-lt2 c =
    let step = c.in-Some.ensures.steps.1 in
    let inv = c.loop-pair.invariant in
    let size = rw (inv.0, step.0) at step.1 in
    let some = rw step.0 at step.2 in
    let all = sym (ap bad_pairs step.0) ∙ inv.1 in
    elim c.then-pair-lt2.branch [
      | then-pair-lt2-via-then-pair-lt2 w ↦ sym (lone _ _ size some w.if-pair-lt2.true) ∙ all
      | then-pair-lt2-via-else-pair-lt2+then-not-is_settable w ↦
          sym (pair _ _ size w.if-pair-lt2.false ∙ rw (sym w.is_settable.ensures ∙ w.if-not-is_settable.true)) ∙ all
    ]

pub loop-pair-preserved : goal.loop-pair-preserved
unfolding ◌or◌
loop-pair-preserved c =
    let steps = c.in-Some.ensures.steps in
    let step = steps.1 in
    let inv = c.loop-pair.invariant in
    let size = rw (inv.0, step.0) at step.1 in
    let good = sym c.is_settable.ensures ∙ c.if-not-is_settable.false in
    (steps.0 ∙ inv.0, sym (ap bad_pairs step.0 ∙ pair _ _ size c.if-pair-lt2.false ∙ rw good) ∙ inv.1)

pub returns : goal.returns
returns c = sym (none _ c.in-None.ensures.steps.1.0) ∙ c.loop-pair.invariant.1
