-- The record's bytes, part by part. Assumes nothing.
use Rattle.answer.specs.declared.Refusal.TheVariants.{Unsound}
use Rattle.answer.specs.declared.Refusal.{Refusal}
use Rattle.std.proofs.Common.{Option, Some, None, MatchOption, Result, Ok, Err}
use Rattle.std.proofs.lemmas.List.{drop-take}
use mathlib.Core.Bool.{Bool, true, false, false≢true}
use mathlib.Core.List.{List, ◌++◌}
use mathlib.Core.Path.{◌≡◌, refl, sym, ap, ◌∙◌}
use Prim.Native.Nat.{ℕ, ◌≤◌, ◌<◌}
use mir.Val.{bool_byte}
use native.Mathlib.Omega.{arith}
use borrow.Author.Tests.{ltb-false, lt-ltb, le-ltb}
use lib.Dec.{ltb}
use lib.ListN.{length, take, drop, get_or, length-replicate}
use lib.Seq.{get_or-take, take-take}
use Rattle.control.specs.Flags.{weighs}
use Rattle.controller.specs.Reset.{fresh, reset_with}
use Rattle.controller.specs.declared.record.Controller.{Controller}
use Rattle.notation.proofs.Cases.{split, when-true, when-false}
use Rattle.notation.proofs.Laid.{laid-append, laid-whole, part_length}
use Rattle.notation.specs.Choice.{when◌then◌else◌}
use Rattle.notation.specs.Overlay.{laid, laid_at}
use Rattle.virtual_chip.specs.Calls.{ChipCall, refusing, fresh_call, made_number}
use Rattle.virtual_chip.specs.RecordBytes.{flag_bytes, register_bytes, head_bytes, bytes_of, flags_in, record_in, is_record, decoded, no_record, record_of, stored}

-- a bool as a byte
pub flag_byte : (b : Bool) → bool_byte b ≡ weighs b 1
unfolding weighs when◌then◌else◌
flag_byte true = refl
flag_byte false = refl

-- the buffer is put first, and the rest before it
pub parts-laid : (c : Controller) (m : List ℕ) → laid (bytes_of c) m ≡ laid (head_bytes c) (laid_at 20 c.buffer m)
unfolding bytes_of head_bytes flag_bytes register_bytes
parts-laid c m = laid-append (head_bytes c) c.buffer m

-- bytes that are a record have room for one
not_short : (b rest : Bool) → (when b then false else rest) ≡ true → b ≡ false
unfolding when◌then◌else◌
not_short true rest e = absurd (false≢true e)
not_short false rest e = refl

pub record-long : (m : List ℕ) → is_record m ≡ true → 88 ≤ length m
unfolding is_record
record-long m e = ltb-false (length m) 88 (not_short (ltb (length m) 88) (record_in m) e)

-- whatever the bytes, the record has its 68 places
pub record-places : (m : List ℕ) → length (record_of m).buffer ≡ 68
unfolding record_of decoded reset_with
record-places m =
    split (λ (c : Controller). length c.buffer ≡ 68) (is_record m) (decoded m) no_record
    (λ e. let l = record-long m e in part_length 20 m (omega (arith, l))) (λ _. length-replicate {A = ℕ} 68 0)

-- what the first 88 bytes hold is what all of them hold
module _ (m : List ℕ) (long : 88 ≤ length m) where
  at : (i : ℕ) → i < 88 → get_or (take 88 m) i 0 ≡ get_or m i 0
  at i h = get_or-take 88 m i 0 h

  places : take 68 (drop 20 (take 88 m)) ≡ take 68 (drop 20 m)
  places = ap (take 68) (drop-take 20 68 m) ∙ take-take 68 68 (drop 20 m) (omega arith)

  first-flags : flags_in (take 88 m) ≡ flags_in m
  unfolding flags_in
  first-flags =
      rw (at 5 (omega arith), at 6 (omega arith), at 7 (omega arith), at 8 (omega arith), at 9 (omega arith), at 10 (omega arith)) refl

  first-record : record_in (take 88 m) ≡ record_in m
  unfolding record_in
  first-record = rw (at 0 (omega arith), at 1 (omega arith), at 2 (omega arith), at 4 (omega arith), first-flags) refl

  first-decoded : decoded (take 88 m) ≡ decoded m
  unfolding decoded
  first-decoded =
      rw (
        places,
        at 2 (omega arith),
        at 3 (omega arith),
        at 4 (omega arith),
        at 5 (omega arith),
        at 6 (omega arith),
        at 7 (omega arith),
        at 8 (omega arith),
        at 9 (omega arith),
        at 10 (omega arith),
        at 11 (omega arith),
        at 12 (omega arith),
        at 13 (omega arith),
        at 14 (omega arith),
        at 15 (omega arith),
        at 16 (omega arith),
        at 17 (omega arith),
        at 18 (omega arith),
        at 19 (omega arith),
      ) refl

-- the record, if the bytes are one
abbrev pub Decoded : List ℕ → Option Controller → Type 0
Decoded m r = MatchOption r (is_record m ≡ false) (λ c. (is_record m ≡ true) × (c ≡ record_of m))

pub decoded-of : (m xs : List ℕ) (r : Option Controller) → 88 ≤ length m → xs ≡ take 88 m →
    MatchOption r (record_in xs ≡ false) (λ c. (record_in xs ≡ true) × (c ≡ decoded xs)) → Decoded m r
unfolding is_record record_of
decoded-of m xs None long e p = when-false _ _ _ (le-ltb (length m) 88 long) ∙ sym (first-record m long) ∙ ap record_in (sym e) ∙ p
decoded-of m xs (Some c) long e p =
    let there = when-false _ _ _ (le-ltb (length m) 88 long) ∙ sym (first-record m long) ∙ ap record_in (sym e) ∙ p.0 in
    (there, p.1 ∙ ap decoded e ∙ first-decoded m long ∙ sym (when-true _ _ _ there))

pub loaded : (m : List ℕ) (r : Option Controller) (d : Controller) → Decoded m r → MatchOption r (d ≡ no_record) (λ c. d ≡ c) → d ≡ record_of m
unfolding record_of
loaded m None d other e = e ∙ sym (when-false _ _ _ other)
loaded m (Some c) d there e = e ∙ there.1

pub no_room : (m : List ℕ) → length m < 88 → is_record m ≡ false
unfolding is_record
no_room m short = when-true _ _ _ (lt-ltb (length m) 88 short)

-- a record is stored whole, or not at all
pub stored-whole : (c : Controller) (m : List ℕ) → length c.buffer ≡ 68 → 88 ≤ length m → bytes_of c ++ drop 88 m ≡ laid (stored (length m) c) m
unfolding stored bytes_of head_bytes flag_bytes register_bytes
stored-whole c m l long =
    let size : length (bytes_of c) ≡ 88 = omega (arith, l) in
    sym (ap (λ (xs : List ℕ). laid xs m) (when-false _ _ _ (le-ltb (length m) 88 long))
    ∙ laid-whole (bytes_of c) m (omega (arith, size, long))
    ∙ ap (λ (k : ℕ). bytes_of c ++ drop k m) size)

pub stored_not : (c : Controller) (m : List ℕ) → length m < 88 → m ≡ laid (stored (length m) c) m
unfolding stored laid
stored_not c m short = sym (ap (λ (xs : List ℕ). laid xs m) (when-true _ _ _ (lt-ltb (length m) 88 short)))

-- a fresh controller is stored whole, or not at all
abbrev pub Made : Result (Unit {0}) Refusal → List ℕ → List ℕ → Type 0
Made r after m = (made_number r ≡ (fresh_call m).answer) × (after ≡ laid (fresh_call m).bytes m)

pub made : (m : List ℕ) (c : Controller) (bytes : List ℕ) → length c.buffer ≡ 68 → 88 ≤ length m → c ≡ fresh → bytes ≡ bytes_of c →
    Made (Ok (tt {0})) (bytes ++ drop 88 m) m
unfolding fresh_call made_number stored
made m c bytes l long e b =
    let room = le-ltb (length m) 88 long in
    let call : fresh_call m ≡ record { answer = 0; bytes = bytes_of fresh } = when-false _ _ _ room in (
      sym (ap (λ (x : ChipCall). x.answer) call),
      ap (λ (xs : List ℕ). xs ++ drop 88 m) b
          ∙ stored-whole c m l long
          ∙ ap (λ (xs : List ℕ). laid xs m) (when-false _ _ _ room ∙ ap bytes_of e)
          ∙ sym (ap (λ (x : ChipCall). laid x.bytes m) call),
    )

pub made_not : (m : List ℕ) → length m < 88 → Made (Err Unsound) m m
unfolding fresh_call made_number refusing laid
made_not m short =
    let call = when-true _ (refusing 10) (record { answer = 0; bytes = bytes_of fresh }) (lt-ltb (length m) 88 short) in
    (sym (ap (λ (x : ChipCall). x.answer) call), sym (ap (λ (x : ChipCall). laid x.bytes m) call))
