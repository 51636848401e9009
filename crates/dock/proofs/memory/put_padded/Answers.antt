-- `put_padded` lays the 68 bytes: those that are left, laid from the place reached, always give what all of them give.
use mathlib.Core.List.{List}
use mathlib.Core.Path.{◌≡◌, sym, ap, ◌∙◌}
use Prim.Native.Nat.{ℕ, ◌+◌}
use native.Mathlib.Omega.{arith}
use lib.ListN.{drop, set, get_or, drop_of_length-le}
use Rattle.notation.proofs.Overlay.{none, one_more}
use Rattle.notation.specs.Overlay.{laid_at}
use Rattle.port.specs.Port.{padded}
use Rattle.dock.proofs.Padded.{padded-length, padded-one}
use Rattle.dock.proofs.memory.put_padded.Goals as goal

pub loop-i-init : goal.loop-i-init
loop-i-init c =
    let a = c.args in
    let start : a.at + 0 ≡ a.at = omega arith in
    ap (λ (k : ℕ). laid_at k (padded a.bytes.now) a.state.now) start

pub loop-i-preserved : goal.loop-i-preserved
loop-i-preserved c =
    let l = c.loop-i in
    let a = c.args in
    let xs = a.bytes.now in
    let x = get_or xs l.i 0 in
    let place : a.at + (l.i + 1) ≡ a.at + l.i + 1 = omega arith in
    ap (λ (y : ℕ). laid_at (a.at + (l.i + 1)) (drop (l.i + 1) (padded xs)) (set l.state (a.at + l.i) y)) c.byte_or_zero.ensures
    ∙ ap (λ (k : ℕ). laid_at k (drop (l.i + 1) (padded xs)) (set l.state (a.at + l.i) x)) place
    ∙ one_more (a.at + l.i) x (drop (l.i + 1) (padded xs)) l.state (omega arith)
    ∙ sym (ap (λ (ys : List ℕ). laid_at (a.at + l.i) ys l.state) (padded-one xs l.i (omega arith)))
    ∙ l.invariant

pub returns : goal.returns
returns c =
    let l = c.loop-i in
    let a = c.args in
    let xs = a.bytes.now in
    let size = padded-length xs in
    let none_left = drop_of_length-le (padded xs) {i = l.i} (omega arith) in
    sym (ap (λ (ys : List ℕ). laid_at (a.at + l.i) ys l.state) none_left ∙ none (a.at + l.i) l.state) ∙ l.invariant
