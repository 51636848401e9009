-- What the parts of a call to take the bytes promise, put together. Assumes nothing.
use mathlib.Core.Bool.{true, false}
use mathlib.Core.List.{List}
use mathlib.Core.Path.{◌≡◌, refl, sym, ap, ◌∙◌}
use Prim.Native.Nat.{ℕ}
use lib.Dec.{eqb}
use lib.ListN.{length}
use Rattle.dock.specs.Calls.{TakeCall, too_short, emptied, taking, take_call}
use Rattle.dock.specs.StateBytes.{bytes_of, port_of}
use Rattle.notation.proofs.Cases.{when-true, when-false}
use Rattle.notation.specs.Overlay.{laid}
use Rattle.port.specs.HandUp.{Taken}
use Rattle.port.specs.Port.{taken}

-- the result, and what destination and state are after the call
abbrev pub Gives : TakeCall → ℕ → List ℕ → List ℕ → List ℕ → List ℕ → Type 0
Gives call answer destination destination' m m' =
    (answer ≡ call.answer) × (destination' ≡ laid call.handed destination) × (m' ≡ laid call.state m)

gives : (call wanted : TakeCall) (answer : ℕ) (d d' m m' : List ℕ) → wanted ≡ call → Gives call answer d d' m m' → Gives wanted answer d d' m m'
gives call wanted answer d d' m m' e g = (
  g.0 ∙ sym (ap (λ (x : TakeCall). x.answer) e),
  g.1 ∙ sym (ap (λ (x : TakeCall). laid x.handed d) e),
  g.2 ∙ sym (ap (λ (x : TakeCall). laid x.state m) e),
)

pub too_short_lem : (m destination : List ℕ) → too_short m ≡ true → Gives (take_call m (length destination)) 21 destination destination m m
unfolding take_call laid
too_short_lem m destination e = gives _ _ _ _ _ _ _ (when-true _ _ _ e) (refl, refl, refl)

-- what was taken, of the port in these bytes
module _ (m destination destination' : List ℕ) (answer : ℕ) (t : Taken) (long : too_short m ≡ false) (e : t ≡ taken (port_of m) (length destination))
    (a : answer ≡ t.answer) (h : destination' ≡ laid t.handed destination) where
  call_is : take_call m (length destination) ≡ taking (port_of m) t
  unfolding take_call
  call_is = when-false _ _ _ long ∙ ap (taking (port_of m)) (sym e)

  pub handed_up : (m' : List ℕ) → eqb answer 0 ≡ true → m' ≡ laid (bytes_of (emptied (port_of m))) m →
      Gives (take_call m (length destination)) answer destination destination' m m'
  unfolding taking
  handed_up m' zero s =
      gives _ _ _ _ _ _ _ call_is
      (a, h, s ∙ ap (λ (xs : List ℕ). laid xs m) (sym (when-true _ _ _ (ap (λ (k : ℕ). eqb k 0) (sym a) ∙ zero))))

  pub not-handed : eqb answer 0 ≡ false → Gives (take_call m (length destination)) answer destination destination' m m
  unfolding taking laid
  not-handed other =
      gives _ _ _ _ _ _ _ call_is
      (a, h, ap (λ (xs : List ℕ). laid xs m) (sym (when-false _ _ _ (ap (λ (k : ℕ). eqb k 0) (sym a) ∙ other))))
