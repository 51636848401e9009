-- A state's bytes lead back to the port that they were made of, and bytes are handed up once. Assumes nothing.
use mathlib.Core.Bool.{Bool, true, false, not}
use mathlib.Core.List.{List, [], ◌∷◌, ◌++◌, append_assoc}
use mathlib.Core.Path.{◌≡◌, refl, sym, ap, subst, ◌∙◌}
use Prim.Native.Nat.{ℕ, ◌≤◌}
use native.Mathlib.Omega.{arith}
use borrow.Author.Tests.{le-ltb, eq-eqb}
use lib.Dec.{eqb}
use lib.ListN.{length, take, drop, length-append, length-set}
use lib.Seq.{take_at, drop_at, drop-drop}
use Rattle.address.specs.Number.{bit_of}
use Rattle.address.specs.declared.number.Direction.TheVariants.{Write, Read}
use Rattle.address.specs.declared.number.Direction.{Direction}
use Rattle.notation.proofs.Laid.{laid-whole, laid-length, part_length}
use Rattle.dock.proofs.Padded.{padded-length}
use Rattle.dock.specs.Calls.{StepCall, TakeCall, too_short, telling, next_call, give_up_call, emptied, taking, take_call}
use Rattle.dock.specs.ReadBack.{ReadBack, state_after, CallsInTurn}
use Rattle.dock.specs.ReadBack.{Between, goes_on, gives_up, takes_again, state_between, state_through, TakenOnce}
use Rattle.dock.specs.StateBytes.{bit, head_bytes, bytes_of, marked, stand_of, port_of}
use Rattle.notation.proofs.Cases.{when-true, when-false}
use Rattle.notation.specs.Choice.{when◌then◌else◌, ◌and◌}
use Rattle.notation.specs.Overlay.{laid}
use Rattle.port.specs.Begin.{give_up_of}
use Rattle.port.specs.HandUp.{nothing, take_of}
use Rattle.port.specs.Hear.{hears, hears_at}
use Rattle.port.specs.Port.{Port, step, after_all, given_up, taken}
use Rattle.port.specs.Stage.{stage_number, stage_for}
use Rattle.port.specs.Stand.{broken_off}
use Rattle.port.specs.declared.stage.Stage.TheVariants.{Over, Control, Status, First, Waiting, Look, Interrupted, Working, Recovering, Pausing, Recheck}
use Rattle.port.specs.declared.stage.Stage.{Stage}
use Rattle.port.specs.declared.stand.Stand.{Stand}
use Rattle.requests.specs.Jobs.{direction_for}

stage_back : (x : Stage) → stage_for (stage_number x) ≡ x
unfolding stage_for stage_number when◌then◌else◌
stage_back Over = refl
stage_back Control = refl
stage_back Status = refl
stage_back First = refl
stage_back Waiting = refl
stage_back Look = refl
stage_back Interrupted = refl
stage_back Working = refl
stage_back Recovering = refl
stage_back Pausing = refl
stage_back Recheck = refl

direction-back : (d : Direction) → direction_for (bit_of d) ≡ d
unfolding direction_for bit_of when◌then◌else◌
direction-back Write = refl
direction-back Read = refl

bit-back : (b : Bool) → eqb (bit b) 1 ≡ b
unfolding bit when◌then◌else◌
bit-back true = refl
bit-back false = refl

bit-set : (b : Bool) → not (eqb (bit b) 0) ≡ b
unfolding bit when◌then◌else◌
bit-set true = refl
bit-set false = refl

-- the head, with whatever follows it
stand-back : (s : Stand) (rest : List ℕ) → stand_of (head_bytes s ++ rest) ≡ s
unfolding stand_of marked head_bytes when◌then◌else◌ ◌and◌
stand-back s rest = rw (stage_back s.stage, direction-back s.job.direction, bit-back s.due, bit-set s.stale) refl

size : (p : Port) → length p.payload ≡ 68 → length p.fetched ≡ 68 → length (bytes_of p) ≡ 148
unfolding bytes_of head_bytes
size p a b = let l = length-append p.payload p.fetched in omega (arith, l, a, b)

-- the three parts, with whatever follows them
abbrev made : Stand → List ℕ → List ℕ → Port
made s payload fetched = record { stand = s; payload = payload; fetched = fetched }

parts-back : (p : Port) (rest : List ℕ) → length p.payload ≡ 68 → length p.fetched ≡ 68 → port_of (bytes_of p ++ rest) ≡ p
unfolding port_of bytes_of head_bytes
parts-back p rest a b =
    let h = head_bytes p.stand in
    let xs = p.payload in
    let ys = p.fetched in
    let all = (h ++ (xs ++ ys)) ++ rest in
    let behind : drop 12 all ≡ xs ++ (ys ++ rest) = append_assoc xs ys rest in
    let second : drop 68 (xs ++ (ys ++ rest)) ≡ ys ++ rest = drop_at xs (ys ++ rest) 68 a in
    let further : drop 80 all ≡ drop 68 (drop 12 all) = sym (drop-drop 68 12 all) in
    ap (λ (s : Stand). made s (take 68 (drop 12 all)) (take 68 (drop 80 all))) (stand-back p.stand ((xs ++ ys) ++ rest))
    ∙ ap (λ (l : List ℕ). made p.stand l (take 68 (drop 80 all))) (ap (take 68) behind ∙ take_at xs (ys ++ rest) 68 a)
    ∙ ap (λ (l : List ℕ). made p.stand xs l) (ap (take 68) (further ∙ ap (drop 68) behind ∙ second) ∙ take_at ys rest 68 b)

pub read_back_lem : ReadBack
read_back_lem p m a b l =
    let n = size p a b in
    ap port_of (laid-whole (bytes_of p) m (omega (arith, n, l))) ∙ parts-back p (drop (length (bytes_of p)) m) a b

one-call : (m : List ℕ) (value : ℕ) → 148 ≤ length m → port_of (laid (next_call m value).state m) ≡ step (port_of m) value
unfolding next_call telling too_short step port_of
one-call m value l =
    let p = port_of m in
    let fetched = length-set p.fetched _ value ∙ part_length 80 m (omega (arith, l)) in
    ap (λ (c : StepCall). port_of (laid c.state m)) (when-false _ _ _ (le-ltb (length m) 148 l))
    ∙ read_back_lem (step p value) m (part_length 12 m (omega (arith, l))) fetched l

pub calls_in_turn : CallsInTurn
unfolding state_after after_all
calls_in_turn m [] l = refl
calls_in_turn m (value ∷ values) l =
    let n = laid-length (next_call m value).state m in
    calls_in_turn (laid (next_call m value).state m) values (omega (arith, n, l)) ∙ ap (λ (p : Port). after_all p values) (one-call m value l)

-- Nothing to take: over, with an answer that is not 0.
record Spent (m : List ℕ) : Type 0 where
  answer : ℕ
  stale : Bool
  stand_is : (port_of m).stand ≡ broken_off answer stale
  other : eqb answer 0 ≡ false
  long : 148 ≤ length m

take_is : (m : List ℕ) (room : ℕ) → 148 ≤ length m → take_call m room ≡ taking (port_of m) (taken (port_of m) room)
unfolding take_call too_short
take_is m room l = when-false _ _ _ (le-ltb (length m) 148 l)

-- so a take gives its answer and nothing else
spent_take : (m : List ℕ) (room : ℕ) (s : Spent m) → take_call m room ≡ record { answer = s.answer; handed = []; state = [] }
unfolding taking take_of stage_number
spent_take m room s =
    let nothing-there : taken (port_of m) room ≡ nothing s.answer =
    ap (λ (x : Stand). take_of x (port_of m).fetched room) s.stand_is ∙ when-false _ _ _ refl ∙ when-true _ _ _ (ap not s.other) in
    take_is m room s.long
    ∙ ap (taking (port_of m)) nothing-there
    ∙ ap (λ (xs : List ℕ). record { answer = s.answer; handed = []; state = xs }) (when-false _ _ _ s.other)

-- a port that is laid there
spent_laid : (p : Port) (m : List ℕ) (answer : ℕ) (stale : Bool) → p.stand ≡ broken_off answer stale → eqb answer 0 ≡ false → length p.payload ≡ 68 →
    length p.fetched ≡ 68 → 148 ≤ length m → Spent (laid (bytes_of p) m)
spent_laid p m answer stale e o a b l =
    let n = laid-length (bytes_of p) m in
    record { answer = answer; stale = stale; stand_is = ap (λ (q : Port). q.stand) (read_back_lem p m a b l) ∙ e; other = o; long = omega (arith, n, l) }

-- and stays so, whatever is done
spent_between : (m : List ℕ) (x : Between) → Spent m → Spent (state_between m x)
unfolding state_between give_up_call too_short telling given_up give_up_of step hears hears_at port_of laid
spent_between m (goes_on value) s =
    let n = laid-length (next_call m value).state m in
    record {
      answer = s.answer;
      stale = s.stale;
      stand_is = ap (λ (q : Port). q.stand) (one-call m value s.long) ∙ ap (λ (x : Stand). hears x (port_of m).payload value) s.stand_is;
      other = s.other;
      long = let l = s.long in omega (arith, n, l);
    }
spent_between m gives_up s =
    let l = s.long in
    let call = when-false _ _ _ (le-ltb (length m) 148 l) in
    subst Spent (sym (ap (λ (c : StepCall). laid c.state m) call))
    (spent_laid (given_up (port_of m)) m 27 true refl refl (part_length 12 m (omega (arith, l))) (part_length 80 m (omega (arith, l))) l)
spent_between m (takes_again room) s = subst Spent (sym (ap (λ (c : TakeCall). laid c.state m) (spent_take m room s))) s

spent_through : (m : List ℕ) (xs : List Between) → Spent m → Spent (state_through m xs)
unfolding state_through
spent_through m [] s = s
spent_through m (x ∷ xs) s = spent_through (state_between m x) xs (spent_between m x s)

-- BYTES ARE HANDED UP ONCE.
pub taken_once : TakenOnce
unfolding taking emptied port_of
taken_once m xs room again l zero =
    let p = port_of m in
    let first = take_is m room l in
    let done = eq-eqb _ 0 (sym (ap (λ (c : TakeCall). c.answer) first) ∙ zero) in
    let left = ap (λ (c : TakeCall). c.state) first ∙ when-true _ _ _ done in
    let spent = subst Spent (sym (ap (λ (ys : List ℕ). laid ys m) left))
    (spent_laid (emptied p) m 21 p.stand.stale refl refl (part_length 12 m (omega (arith, l))) (padded-length []) l) in
    let after = spent_through (laid (take_call m room).state m) xs spent in
    let second = spent_take (state_through (laid (take_call m room).state m) xs) again after in
    (ap (λ (c : TakeCall). eqb c.answer 0) second ∙ after.other, ap (λ (c : TakeCall). c.handed) second)
