-- Many bytes written to I2CDAT, and many read from it. Assumes nothing.
use mathlib.Core.Bool.{true, false}
use mathlib.Core.List.{List, [], ◌∷◌, ◌++◌, append-nil}
use mathlib.Core.Path.{◌≡◌, refl, sym, ap, subst, ◌∙◌}
use Prim.Native.Nat.{ℕ, zero, suc, ◌+◌, ◌≤◌, ◌<◌}
use native.Mathlib.Omega.{arith}
use lib.ListN.{length, take, drop, set, get_or, length-set}
use lib.Seq.{take-suc-set, append_snoc, drop-cons}
use Rattle.control.specs.Turn.{wire_turns, kind}
use Rattle.controller.specs.Record.{place, sound}
use Rattle.controller.specs.Setters.{with_hand}
use Rattle.controller.specs.Reply.{Outcome, accepts}
use Rattle.controller.specs.declared.record.Controller.{Controller}
use Rattle.block.specs.Block.{written}
use Rattle.laws.proofs.Soundness.{read-stays-sound}
use Rattle.notation.specs.Choice.{among}
use Rattle.service.specs.Act.{put, reads, fetch_one, fetch}
use Rattle.service.specs.Progress.{with_record, with_fetched}
use Rattle.service.specs.declared.progress.Progress.{Progress}
use Rattle.service.proofs.Sound.{put-sound}
use Rattle.service.proofs.AccessesLeave.{data_written, data_written_lem, data_read}

pub retake : (l : List ℕ) (m n : ℕ) → m ≡ n → take m l ≡ take n l
retake l m n e = ap (λ (k : ℕ). take k l) e

-- d is c with these bytes written from the hand place on
pub record Loaded (xs : List ℕ) (c d : Controller) : Type 0 where
  pub turn : d.turn ≡ c.turn
  pub registers : d.registers ≡ c.registers
  pub sound : sound d ≡ true
  pub places : length d.buffer ≡ 68
  pub bytes : take (c.hand + length xs) d.buffer ≡ take c.hand c.buffer ++ xs

pub load_all : (xs : List ℕ) (c : Controller) → sound c ≡ true → among (kind c.turn) wire_turns ≡ false → c.hand + length xs ≤ 68 →
    length c.buffer ≡ 68 → Loaded xs c (written xs c)
unfolding written put
load_all [] c s w h l =
    record { turn = refl; registers = refl; sound = s; places = l; bytes = retake c.buffer (c.hand + 0) c.hand (omega arith) ∙ sym (append-nil _) }
load_all (x ∷ xs) c s w h l =
    let d = data_written c x in
    let e = data_written_lem c x s w (omega arith) in
    let inner = load_all xs d (subst (λ y. sound y ≡ true) e (put-sound c 1 x s)) w (omega arith) (length-set c.buffer c.hand x ∙ l) in
    subst (λ y. Loaded (x ∷ xs) c (written xs y)) (sym e)
    (record {
      turn = inner.turn;
      registers = inner.registers;
      sound = inner.sound;
      places = inner.places;
      bytes =
          retake (written xs d).buffer (c.hand + suc (length xs)) (d.hand + length xs) (omega arith) ∙ inner.bytes ∙
          ap (λ (l : List ℕ). l ++ xs)
          (retake (set c.buffer c.hand x) d.hand (suc c.hand) (omega arith) ∙ take-suc-set c.buffer c.hand x (omega arith)) ∙
          append_snoc (take c.hand c.buffer) x xs;
    })

-- q is p with so many bytes read from I2CDAT, noted at place i and those after it
pub record Fetched (more i : ℕ) (p q : Progress) : Type 0 where
  pub turn : q.controller.turn ≡ p.controller.turn
  pub registers : q.controller.registers ≡ p.controller.registers
  pub sound : sound q.controller ≡ true
  pub places : length q.controller.buffer ≡ 68
  pub notes : length q.fetched ≡ 68
  pub over : q.over ≡ p.over
  pub bytes : take (i + more) q.fetched ≡ take i p.fetched ++ take more (drop i p.controller.buffer)

-- the note of one byte
abbrev noted : ℕ → Progress → Progress
noted i p =
    let c = p.controller in
    with_fetched (with_record p (with_hand c (c.hand + 1))) (set p.fetched i (place c c.hand))

fetch-one : (i : ℕ) (p : Progress) → sound p.controller ≡ true → among (kind p.controller.turn) wire_turns ≡ false →
    p.controller.hand < 68 →
    fetch_one i p ≡ noted i p
unfolding fetch_one reads accepts
fetch-one i p s w h =
    ap (λ (o : Outcome). with_fetched (with_record p o.next) (set p.fetched i o.value)) (data_read p.controller s w h)

pub fetch-all : (more i : ℕ) (p : Progress) → sound p.controller ≡ true → among (kind p.controller.turn) wire_turns ≡ false →
    p.controller.hand ≡ i → i + more ≤ 68 → length p.controller.buffer ≡ 68 → length p.fetched ≡ 68 → Fetched more i p (fetch more i p)
unfolding fetch fetch_one
fetch-all zero i p s w h b l f =
    let bytes = retake p.fetched (i + 0) i (omega arith) ∙ sym (append-nil _) in
    record { turn = refl; registers = refl; sound = s; places = l; notes = f; over = refl; bytes = bytes }
fetch-all (suc more) i p s w h b l f =
    let q = noted i p in
    let buffer = p.controller.buffer in
    let byte = place p.controller p.controller.hand in
    let rest : ℕ → List ℕ = λ k. take more (drop k buffer) in
    let next : i + 1 ≡ suc i = omega arith in
    let e = fetch-one i p s w (omega arith) in
    let still = subst (λ y. sound y.controller ≡ true) e (read-stays-sound p.controller 1 s) in
    let inner = fetch-all more (i + 1) q still w (ap (λ (n : ℕ). n + 1) h) (omega arith) l (length-set p.fetched i _ ∙ f) in
    subst (λ y. Fetched (suc more) i p (fetch more (i + 1) y)) (sym e)
    (record {
      turn = inner.turn;
      registers = inner.registers;
      sound = inner.sound;
      places = inner.places;
      notes = inner.notes;
      over = inner.over;
      bytes =
          retake (fetch more (i + 1) q).fetched (i + suc more) ((i + 1) + more) (omega arith) ∙ inner.bytes ∙
          ap (λ (l : List ℕ). l ++ rest (i + 1)) (retake q.fetched (i + 1) (suc i) (omega arith) ∙ take-suc-set p.fetched i byte (omega arith)) ∙
          append_snoc (take i p.fetched) byte (rest (i + 1)) ∙
          ap (λ (l : List ℕ). take i p.fetched ++ l)
          (ap (λ (k : ℕ). get_or buffer k 0 ∷ rest (i + 1)) h ∙ ap (λ (k : ℕ). get_or buffer i 0 ∷ rest k) next ∙
          sym (ap (take (suc more)) (drop-cons buffer i 0 (omega arith))));
    })
