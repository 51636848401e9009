-- What the parts of a call promise, put together. Assumes nothing.
use Rattle.answer.specs.Refusal.{Answer, refusal_of, value_of}
use Rattle.answer.specs.declared.Refusal.TheVariants.{OutOfRange, BadArgument, OnTheWire, Locked, Unlisted, BadCount, BufferEnd, Unexpected, Inaccessible, Unsound}
use Rattle.answer.specs.declared.Refusal.{Refusal}
use Rattle.std.proofs.Common.{Option, Some, None, Result, Ok, Err, IsErrAnd}
use Rattle.std.specs.Option.{ok_or}
use mathlib.Core.Bool.{true, false}
use mathlib.Core.List.{List}
use mathlib.Core.Path.{◌≡◌, refl, sym, ap, ◌∙◌}
use Prim.Native.Nat.{ℕ, ◌+◌, ◌*◌}
use borrow.Author.Tests.{le-ltb}
use lib.Dec.{eqb}
use lib.ListN.{length}
use Rattle.controller.specs.Reply.{Outcome}
use Rattle.notation.proofs.Cases.{when-true, when-false}
use Rattle.notation.specs.Overlay.{laid}
use Rattle.requests.specs.Groups.{group_of}
use Rattle.controller.specs.declared.record.Controller.{Controller}
use Rattle.virtual_chip.proofs.Bytes.{record-long, Decoded}
use Rattle.virtual_chip.specs.Calls.{ChipCall, refusing, packed, replying, access_call}
use Rattle.virtual_chip.specs.RecordBytes.{is_record, record_of, stored}

-- the answer and the bytes are those of this call
abbrev pub Gives : ChipCall → Answer → List ℕ → List ℕ → Type 0
Gives call answer after m = (refusal_of answer + 256 * value_of answer ≡ call.answer) × (after ≡ laid call.bytes m)

gives : (call wanted : ChipCall) (a : Answer) (after m : List ℕ) → wanted ≡ call → Gives call a after m → Gives wanted a after m
gives call wanted a after m e g =
    (g.0 ∙ sym (ap (λ (x : ChipCall). x.answer) e), g.1 ∙ sym (ap (λ (x : ChipCall). laid x.bytes m) e))

-- what `ok_or` and `?` make of the bytes
pub missed : (m : List ℕ) (r : Option Controller) (why : Refusal) → Decoded m r → ◌≡◌ {A = Result Controller Refusal} (Err why) (ok_or r Unsound) → (is_record m ≡ false) × (why ≡ Unsound)
missed m None why other e = (other, cc)
missed m (Some c) why there e = absurd (cc)

pub found : (m : List ℕ) (r : Option Controller) (c : Controller) → Decoded m r → ◌≡◌ {A = Result Controller Refusal} (Ok c) (ok_or r Unsound) → (is_record m ≡ true) × (c ≡ record_of m)
found m None c other e = absurd (cc)
found m (Some d) c there e = let same : c ≡ d = cc in (there.0, same ∙ there.1)

pub refused_with : (a : Answer) (why : Refusal) → IsErrAnd a (λ x. x ≡ why) → a ≡ Err why
refused_with (Ok value) why e = absurd e
refused_with (Err x) why e = ap Err e

pub never_0 : (why : Refusal) → eqb (refusal_of (Err why)) 0 ≡ false
unfolding refusal_of
never_0 OutOfRange = refl
never_0 BadArgument = refl
never_0 OnTheWire = refl
never_0 Locked = refl
never_0 Unlisted = refl
never_0 BadCount = refl
never_0 BufferEnd = refl
never_0 Unexpected = refl
never_0 Inaccessible = refl
never_0 Unsound = refl

-- of the rules' outcome, asked of the record in these bytes
module _ (m : List ℕ) (kind place given : ℕ) (a : Answer) (o : Outcome) (found : is_record m ≡ true) (e : o ≡ group_of (record_of m) kind place given)
    (r : o.refused ≡ refusal_of a) (v : o.value ≡ value_of a) where
  call_is : access_call m kind place given ≡ replying o
  unfolding access_call
  call_is = when-true _ _ _ found ∙ ap replying (sym e)

  number : refusal_of a + 256 * value_of a ≡ packed o
  unfolding packed
  number = rw (r, v) refl

  pub accepted : (after : List ℕ) → eqb (refusal_of a) 0 ≡ true → after ≡ laid (stored (length m) o.next) m → Gives (access_call m kind place given) a after m
  unfolding replying stored
  accepted after zero laying =
      gives (replying o) _ _ _ _ call_is
      (gives _ (replying o) _ after m (when-true _ _ _ (ap (λ (k : ℕ). eqb k 0) r ∙ zero))
      (number, laying ∙ ap (λ (xs : List ℕ). laid xs m) (when-false _ _ _ (le-ltb (length m) 88 (record-long m found)))))

  pub refused_so : eqb (refusal_of a) 0 ≡ false → Gives (access_call m kind place given) a m m
  unfolding replying refusing laid
  refused_so other =
      gives (replying o) _ _ _ _ call_is
      (gives _ (replying o) _ m m (when-false _ _ _ (ap (λ (k : ℕ). eqb k 0) r ∙ other)) (number, refl))

-- of bytes that are no record
pub no_record_there : (m : List ℕ) (kind place given : ℕ) (a : Answer) → is_record m ≡ false → refusal_of a + 256 * value_of a ≡ 10 →
    Gives (access_call m kind place given) a m m
unfolding access_call refusing laid
no_record_there m kind place given a other e = gives (refusing 10) _ _ m m (when-false _ _ _ other) (e, refl)
