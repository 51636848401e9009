-- A state is the first 148 bytes of what was lent: what they hold, and what a call leaves there. Assumes nothing.
use mathlib.Core.List.{List, [], ◌∷◌, ◌++◌, append_assoc}
use mathlib.Core.Bool.{false}
use mathlib.Core.Path.{◌≡◌, refl, sym, ap, ◌∙◌}
use Prim.Native.Nat.{ℕ, zero, suc, ◌<◌, ◌≤◌}
use native.Mathlib.Omega.{arith}
use borrow.Author.Tests.{le-ltb}
use lib.ListN.{length, take, drop, get_or, length-append, take-append-drop}
use lib.Seq.{get_or-take, length-take-le}
use Rattle.std.proofs.lemmas.List.{drop-take}
use Rattle.std.specs.Array.{IsFirstChunk}
use Rattle.dock.specs.Calls.{StepCall, too_short, telling}
use Rattle.dock.specs.StateBytes.{head_bytes, bytes_of, marked, stand_of, port_of}
use Rattle.notation.proofs.Laid.{laid-whole}
use Rattle.notation.specs.Overlay.{laid}
use Rattle.port.specs.Port.{Port}

take_less : (a b : ℕ) (xs : List ℕ) → a ≤ b → take a (take b xs) ≡ take a xs
take_less zero b xs h = refl
take_less (suc a) zero xs h = absurd (omega arith)
take_less (suc a) (suc b) [] h = refl
take_less (suc a) (suc b) (x ∷ xs) h = ap (λ (l : List ℕ). x ∷ l) (take_less a b xs (omega arith))

drop_less : (k n : ℕ) (xs : List ℕ) → k ≤ n → drop k (take n xs) ++ drop n xs ≡ drop k xs
drop_less zero n xs h = take-append-drop n xs
drop_less (suc k) zero xs h = absurd (omega arith)
drop_less (suc k) (suc n) [] h = refl
drop_less (suc k) (suc n) (x ∷ xs) h = drop_less k n xs (omega arith)

stand-first : (m : List ℕ) → stand_of (take 148 m) ≡ stand_of m
unfolding stand_of marked
stand-first m =
    let at : (i : ℕ) → i < 148 → get_or (take 148 m) i 0 ≡ get_or m i 0 = λ i h. get_or-take 148 m i 0 h in
    rw (
      at 0 (omega arith),
      at 1 (omega arith),
      at 2 (omega arith),
      at 3 (omega arith),
      at 4 (omega arith),
      at 5 (omega arith),
      at 6 (omega arith),
      at 7 (omega arith),
      at 8 (omega arith),
      at 9 (omega arith),
      at 10 (omega arith),
      at 11 (omega arith),
    )

port-first : (m : List ℕ) → port_of (take 148 m) ≡ port_of m
unfolding port_of
port-first m =
    rw (
      stand-first m,
      drop-take 12 136 m,
      take_less 68 136 (drop 12 m) (omega arith),
      drop-take 80 68 m,
      take_less 68 68 (drop 80 m) (omega arith),
    )

laid-first : (m xs : List ℕ) → length xs ≤ 148 → 148 ≤ length m → laid xs (take 148 m) ++ drop 148 m ≡ laid xs m
laid-first m xs few long =
    let size = length-take-le 148 m long in
    ap (λ (l : List ℕ). l ++ drop 148 m) (laid-whole xs (take 148 m) (omega arith))
    ∙ append_assoc xs (drop (length xs) (take 148 m)) (drop 148 m)
    ∙ ap (λ (l : List ℕ). xs ++ l) (drop_less (length xs) 148 m few)
    ∙ sym (laid-whole xs m (omega arith))

-- the bytes m are lent, and the state a is the first of them
module _ (m a : List ℕ) (first : IsFirstChunk m a 148) where
  pub long : 148 ≤ length a
  long = let e = first.enough in omega (arith, ap length first.same, length-take-le 148 m e)

  pub not-short : too_short m ≡ false
  unfolding too_short
  not-short = le-ltb (length m) 148 first.enough

  pub port : port_of a ≡ port_of m
  port = ap port_of first.same ∙ port-first m

  -- what stands behind the state stays
  pub same : a ++ drop 148 m ≡ m
  same = ap (λ (l : List ℕ). l ++ drop 148 m) first.same ∙ take-append-drop 148 m

  pub left : (xs after : List ℕ) → length xs ≤ 148 → after ≡ laid xs a → after ++ drop 148 m ≡ laid xs m
  left xs after few e =
      ap (λ (l : List ℕ). l ++ drop 148 m) (e ∙ ap (laid xs) first.same) ∙ laid-first m xs few first.enough

  pub size : (p : Port) → length p.payload ≡ 68 → length p.fetched ≡ 68 → length (bytes_of p) ≤ 148
  unfolding bytes_of head_bytes
  size p d f = let l = length-append p.payload p.fetched in omega arith

  -- what a call tells and leaves in the state, of all the bytes lent
  pub all-told : (call : StepCall) (p : Port) (after : List ℕ) (result : ℕ) → call ≡ telling p → length p.payload ≡ 68 → length p.fetched ≡ 68 →
      (result ≡ (telling p).step) × (after ≡ laid (telling p).state a) → (result ≡ call.step) × (after ++ drop 148 m ≡ laid call.state m)
  unfolding telling
  all-told call p after result e d f told = (
    told.0 ∙ sym (ap (λ (c : StepCall). c.step) e),
    left (bytes_of p) after (size p d f) told.1 ∙ sym (ap (λ (c : StepCall). laid c.state m) e),
  )
