-- The record's bytes lead back to the record that they were made of. Assumes nothing.
use mathlib.Core.Bool.{Bool, true, false}
use mathlib.Core.List.{List, ◌++◌}
use mathlib.Core.Path.{◌≡◌, refl, sym, ap, subst, ◌∙◌}
use Prim.Native.Nat.{ℕ}
use native.Mathlib.Omega.{arith}
use borrow.Author.Tests.{le-ltb, eqb-false}
use lib.Dec.{eqb, ltb}
use lib.ListN.{length, take, drop, length-append}
use lib.Seq.{take_at}
use Rattle.control.specs.Flags.{weighs}
use Rattle.control.specs.Reason.{reason_number}
use Rattle.control.specs.Turn.{status_of}
use Rattle.control.specs.declared.reason.Reason.TheVariants.{NoneYet, CountReached, Nack, Outside, ArbitrationLost, Fault, Reset}
use Rattle.control.specs.declared.reason.Reason.{Reason}
use Rattle.control.specs.declared.turn.Called.TheVariants.{Own, General}
use Rattle.control.specs.declared.turn.Edge.TheVariants.{Stop, Start}
use Rattle.control.specs.declared.turn.Turn.TheVariants.{Off, Host, Free, Busy, Listen}
use Rattle.control.specs.declared.turn.Turn.TheVariants.{Address, Send, Receive, SlaveReceive, SlaveSend, Stopping, Restarting}
use Rattle.control.specs.declared.turn.Turn.{Turn}
use Rattle.controller.specs.Reply.{Outcome}
use Rattle.controller.specs.Setters.{with_buffer}
use Rattle.controller.specs.declared.record.Controller.{Controller}
use Rattle.laws.proofs.Refusals.{read_stays, write-stays, event-stays}
use Rattle.notation.proofs.Cases.{when-true, when-false, split}
use Rattle.notation.proofs.Laid.{laid-whole}
use Rattle.notation.specs.Choice.{when◌then◌else◌, ◌and◌, ◌or◌}
use Rattle.notation.specs.Overlay.{laid}
use Rattle.requests.specs.Groups.{group_of}
use Rattle.virtual_chip.proofs.Bytes.{record-long, record-places}
use Rattle.virtual_chip.proofs.Places.{group_sized}
use Rattle.virtual_chip.specs.Calls.{ChipCall, refusing, packed, replying, access_call}
use Rattle.virtual_chip.specs.Numbers.{host_number, slave_number, turn_number, is_turn, turn_for, reason_for}
use Rattle.virtual_chip.specs.ReadBack.{ReadBack}
use Rattle.virtual_chip.specs.RecordBytes.{flag_bytes, register_bytes, head_bytes, bytes_of, flags_in, record_in, is_record, decoded, record_of}

-- a turn, by its number and status
abbrev TurnBack : Turn → Type 0
TurnBack t = (turn_for (turn_number t) (status_of t) ≡ t) × (is_turn (turn_number t) ≡ true)

turn-back : (t : Turn) → TurnBack t
unfolding turn_for turn_number host_number slave_number status_of is_turn when◌then◌else◌ ◌or◌
turn-back Off = (refl, refl)
turn-back (Host status Stop) = (refl, refl)
turn-back (Host status Start) = (refl, refl)
turn-back Free = (refl, refl)
turn-back Busy = (refl, refl)
turn-back Listen = (refl, refl)
turn-back Address = (refl, refl)
turn-back Send = (refl, refl)
turn-back Receive = (refl, refl)
turn-back (SlaveReceive Own) = (refl, refl)
turn-back (SlaveReceive General) = (refl, refl)
turn-back SlaveSend = (refl, refl)
turn-back Stopping = (refl, refl)
turn-back Restarting = (refl, refl)

abbrev ReasonBack : Reason → Type 0
ReasonBack r = (reason_for (reason_number r) ≡ r) × (ltb (reason_number r) 7 ≡ true)

reason-back : (r : Reason) → ReasonBack r
unfolding reason_for when◌then◌else◌
reason-back NoneYet = (refl, refl)
reason-back CountReached = (refl, refl)
reason-back Nack = (refl, refl)
reason-back Outside = (refl, refl)
reason-back ArbitrationLost = (refl, refl)
reason-back Fault = (refl, refl)
reason-back Reset = (refl, refl)

flag_back : (b : Bool) → (eqb (weighs b 1) 1 ≡ b) × (ltb (weighs b 1) 2 ≡ true)
unfolding weighs when◌then◌else◌
flag_back true = (refl, refl)
flag_back false = (refl, refl)

-- the bytes, with whatever follows them, are a record
module _ (c : Controller) (rest : List ℕ) where
  abbrev all : List ℕ
  all = head_bytes c ++ rest

  flags-there : flags_in all ≡ true
  unfolding flags_in head_bytes flag_bytes register_bytes ◌and◌
  flags-there =
      rw (
        (flag_back c.control.aa).1,
        (flag_back c.control.ensio).1,
        (flag_back c.control.sta).1,
        (flag_back c.control.sto).1,
        (flag_back c.control.mode).1,
        (flag_back c.armed).1,
      ) refl

  record-there : record_in all ≡ true
  unfolding record_in head_bytes flag_bytes register_bytes ◌and◌
  record-there = rw ((turn-back c.turn).1, (reason-back c.reason).1, flags-there) refl

  -- and this one but for the buffer
  head_back : decoded all ≡ with_buffer c (take 68 rest)
  unfolding decoded head_bytes flag_bytes register_bytes
  head_back =
      rw (
        (turn-back c.turn).0,
        (reason-back c.reason).0,
        (flag_back c.control.aa).0,
        (flag_back c.control.ensio).0,
        (flag_back c.control.sta).0,
        (flag_back c.control.sto).0,
        (flag_back c.control.mode).0,
        (flag_back c.armed).0,
      ) refl

size : (c : Controller) → length c.buffer ≡ 68 → length (bytes_of c) ≡ 88
unfolding bytes_of head_bytes flag_bytes register_bytes
size c l = omega (arith, l)

-- the bytes of a record, with whatever follows them
abbrev pub Back : Controller → List ℕ → Type 0
Back c m = (is_record m ≡ true) × (record_of m ≡ c)

whole_back : (c : Controller) (rest : List ℕ) → length c.buffer ≡ 68 → Back c (bytes_of c ++ rest)
unfolding is_record record_of bytes_of head_bytes flag_bytes register_bytes
whole_back c rest l =
    let n = length-append c.buffer rest in
    let there = when-false _ _ _ (le-ltb (length (bytes_of c ++ rest)) 88 (omega (arith, n, l))) ∙ record-there c (c.buffer ++ rest) in
    (there, when-true _ _ _ there ∙ head_back c (c.buffer ++ rest) ∙ ap (with_buffer c) (take_at c.buffer rest 68 l))

-- READING BACK what was stored is the record.
pub read_back_lem : ReadBack
read_back_lem c m l long =
    let n = size c l in
    subst (Back c) (sym (laid-whole (bytes_of c) m (omega (arith, n, long)))) (whole_back c (drop (length (bytes_of c)) m) l)

-- "A refused access or event changes nothing at all"
kept : (c : Controller) (kind place value : ℕ) → ((group_of c kind place value).refused ≡ 0 → ⊥) → (group_of c kind place value).next ≡ c
unfolding group_of
kept c kind place value =
    split Keeps (eqb kind 0) _ _ (λ _. (read_stays c place).record-kept)
    (λ _. split Keeps (eqb kind 1) _ _ (λ _. (write-stays c place value).record-kept) (λ _. (event-stays c place value).record-kept))
  where
    Keeps : Outcome → Type 0
    Keeps o = (o.refused ≡ 0 → ⊥) → o.next ≡ c

-- one call: its answer, and the record in the bytes after it
module _ (m : List ℕ) (kind place value : ℕ) (there : is_record m ≡ true) where
  abbrev pub o : Outcome
  o = group_of (record_of m) kind place value

  abbrev pub Called : ChipCall → Type 0
  Called call = (call.answer ≡ packed o) × Back o.next (laid call.bytes m)

  replied : Called (replying o)
  unfolding replying refusing laid
  replied =
      split Called (eqb o.refused 0) _ _
      (λ _. (refl, read_back_lem o.next m ((group_sized (record_of m) kind place value).places ∙ record-places m) (record-long m there)))
      (λ e. (refl, (there, sym (kept (record_of m) kind place value (eqb-false _ _ e)))))

  pub called : Called (access_call m kind place value)
  unfolding access_call
  called = subst Called (sym (when-true _ _ _ there)) replied
