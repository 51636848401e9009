-- `copy_first` lays the first n bytes over the destination: those that are left, laid from place i on, always give what all of them give.
use mathlib.Core.List.{List, ◌∷◌}
use mathlib.Core.Path.{◌≡◌, sym, ap, ◌∙◌}
use Prim.Native.Nat.{ℕ, ◌+◌, ◌≤◌, ◌<◌}
use native.Mathlib.Numerals.{add-one}
use native.Mathlib.Omega.{arith}
use lib.ListN.{length, get_or, take, drop, length-take, drop_of_length-le}
use lib.Seq.{drop-cons, get_or-take}
use Rattle.notation.proofs.Overlay.{at_start, none, one_more}
use Rattle.notation.specs.Overlay.{laid_at}
use Rattle.port.proofs.hand_up.copy_first.Goals as goal

-- the next byte, and the rest
next : (n : ℕ) (bytes : List ℕ) (i : ℕ) → i < n → i < length bytes → drop i (take n bytes) ≡ get_or bytes i 0 ∷ drop (i + 1) (take n bytes)
next n bytes i h l =
    let few : i < length (take n bytes) = omega (arith, length-take n bytes) in
    rw (add-one, drop-cons (take n bytes) i 0, get_or-take n bytes i 0)

-- none are left
all_laid : (i : ℕ) (xs lent all : List ℕ) → length xs ≤ i → laid_at i (drop i xs) lent ≡ all → lent ≡ all
all_laid i xs lent all h e = sym (rw (drop_of_length-le xs h) (none i lent)) ∙ e

pub loop-i-init : goal.loop-i-init
loop-i-init c = at_start (take c.args.n c.args.bytes.now) c.args.destination.now

pub returns-then-bytes-i : goal.returns-then-bytes-i
returns-then-bytes-i c =
    let l = c.loop-i in
    let s = c.args in
    all_laid l.i (take s.n s.bytes.now) l.destination _ (omega (arith, length-take s.n s.bytes.now)) l.invariant

pub loop-i-preserved : goal.loop-i-preserved
loop-i-preserved c =
    let l = c.loop-i in
    let s = c.args in
    let bytes = s.bytes.now in
    let x = get_or bytes l.i 0 in
    let first = next s.n bytes l.i (omega arith) (omega arith) in
    one_more l.i x (drop (l.i + 1) (take s.n bytes)) l.destination (omega arith)
    ∙ sym (ap (λ (xs : List ℕ). laid_at l.i xs l.destination) first)
    ∙ l.invariant

pub returns : goal.returns
returns c =
    let l = c.loop-i in
    let s = c.args in
    all_laid l.i (take s.n s.bytes.now) l.destination _ (omega (arith, length-take s.n s.bytes.now)) l.invariant
