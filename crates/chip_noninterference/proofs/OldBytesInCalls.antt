-- Demand 3 of two virtual chips: what is given is what the rules give, and of that demand 3 speaks. Assumes nothing.
use mathlib.Core.Bool.{true}
use mathlib.Core.List.{List, [], ◌∷◌}
use mathlib.Core.Path.{◌≡◌, refl, sym, ap, subst, ◌∙◌}
use Prim.Native.Nat.{ℕ, ◌+◌, ◌*◌, ◌≤◌, ◌<◌}
use native.Mathlib.Omega.{arith}
use borrow.Author.Tests.{le-ltb}
use lib.ListN.{length, take, get_or}
use lib.Seq.{get_or-take}
use Rattle.address.specs.Number.{bit_of}
use Rattle.address.specs.declared.number.Address.{Address}
use Rattle.address.specs.declared.number.Direction.TheVariants.{Write, Read}
use Rattle.address.specs.declared.number.Direction.{Direction}
use Rattle.controller.specs.declared.record.Controller.{Controller}
use Rattle.driver.specs.Run.{Report, job_of}
use Rattle.noninterference.proofs.Theorem.{demand_3}
use Rattle.noninterference.specs.OldBytes.{GivenJob, Item, run_job, reset_pin, indptr, register2, i2ccon, anothers_start, anothers_stop, anothers_address}
use Rattle.noninterference.specs.OldBytes.{Seen, answered, worked, step, report_of, Compared, observe, HandsUpCarried, AllCarry, AlikeButForPlaces}
use Rattle.notation.proofs.Cases.{when-true, when-false}
use Rattle.notation.specs.Choice.{when◌then◌else◌}
use Rattle.perlovasta.proofs.ChipIsController.{one-call, chip_is_controller}
use Rattle.perlovasta.specs.ChipIsController.{job, replied, call_gives, rule_gives, record_after, calls_give, rules_give}
use Rattle.perlovasta.specs.Job.{JobCall, request_report, tells}
use Rattle.perlovasta.specs.ReportBytes.{low_first, report_bytes}
use Rattle.requests.specs.Groups.{group_of}
use Rattle.requests.specs.Jobs.{direction_for}
use Rattle.virtual_chip.proofs.Bytes.{record-long, record-places}
use Rattle.virtual_chip.specs.Calls.{packed}
use Rattle.virtual_chip.specs.RecordBytes.{flags_in, record_in, is_record, decoded, record_of}
use Rattle.chip_noninterference.specs.OldBytesInCalls.{in_numbers, asked_of, all_asked, CallCarries, CallsCarry, Demand3OfCalls}

-- Two chips whose first 20 bytes are the same.
module _ (m m' : List ℕ) (e : take 20 m ≡ take 20 m') where
  at : (i : ℕ) → i < 20 → get_or m i 0 ≡ get_or m' i 0
  at i h = sym (get_or-take 20 m i 0 h) ∙ ap (λ (l : List ℕ). get_or l i 0) e ∙ get_or-take 20 m' i 0 h

  same_flags : flags_in m ≡ flags_in m'
  unfolding flags_in
  same_flags =
      rw (at 5 (omega arith), at 6 (omega arith), at 7 (omega arith), at 8 (omega arith), at 9 (omega arith), at 10 (omega arith)) refl

  same_kind : record_in m ≡ record_in m'
  unfolding record_in
  same_kind = rw (at 0 (omega arith), at 1 (omega arith), at 2 (omega arith), at 4 (omega arith), same_flags) refl

  both_records : is_record m ≡ true → 88 ≤ length m' → is_record m' ≡ true
  unfolding is_record
  both_records there long =
      when-false _ _ _ (le-ltb (length m') 88 long) ∙ sym same_kind ∙ sym (when-false _ _ _ (le-ltb (length m) 88 (record-long m there))) ∙ there

  -- their records are alike but for the places
  decoded-alike : length (decoded m).buffer ≡ 68 → length (decoded m').buffer ≡ 68 → AlikeButForPlaces (decoded m) (decoded m')
  unfolding decoded
  decoded-alike l l' = record {
    hand = at 11 (omega arith);
    moved = at 12 (omega arith);
    pointer = at 13 (omega arith);
    armed = rw (at 10 (omega arith)) refl;
    registers = rw (at 14 (omega arith), at 15 (omega arith), at 16 (omega arith), at 17 (omega arith), at 18 (omega arith), at 19 (omega arith)) refl;
    control = rw (at 5 (omega arith), at 6 (omega arith), at 7 (omega arith), at 8 (omega arith), at 9 (omega arith)) refl;
    turn = rw (at 2 (omega arith), at 3 (omega arith)) refl;
    reason = rw (at 4 (omega arith)) refl;
    buffer_length = l;
    buffer_length' = l';
  }

  alike : is_record m ≡ true → is_record m' ≡ true → AlikeButForPlaces (record_of m) (record_of m')
  unfolding record_of
  alike there there' =
      let here : record_of m ≡ decoded m = when-true _ _ _ there in
      let here' : record_of m' ≡ decoded m' = when-true _ _ _ there' in
      subst (λ (d : Controller). AlikeButForPlaces d (record_of m')) (sym here)
      (subst (λ (d : Controller). AlikeButForPlaces (decoded m) d) (sym here')
      (decoded-alike (ap (λ (d : Controller). length d.buffer) (sym here) ∙ record-places m)
      (ap (λ (d : Controller). length d.buffer) (sym here') ∙ record-places m')))

-- a job in numbers is the job
in_numbers_lem : (d : Direction) (address : Address) (n : ℕ) (payload : List ℕ) (room places : ℕ) (script : List ℕ) (c : Controller) →
    request_report c (bit_of d) address.0 n payload room places script
    ≡ job_of (record { direction = d; address = address; n = n }) payload room places script c
unfolding request_report bit_of direction_for when◌then◌else◌
in_numbers_lem Write address n payload room places script c = refl
in_numbers_lem Read address n payload room places script c = refl

-- what is compared of an item, as the calls give it
abbrev given : Seen → JobCall
given (answered refused value) = replied (refused + 256 * value)
given (worked answer refused count events sent handed) = record {
  answer = answer;
  handed = handed;
  sent = sent;
  told = answer ∷ refused ∷ count ∷ length sent ∷ low_first 8 events;
}

abbrev all_given : List Compared → List JobCall
all_given [] = []
all_given (x ∷ xs) = given x.seen ∷ all_given xs

job_is : (q : GivenJob) (c : Controller) →
    request_report c (bit_of q.job.direction) q.job.address.0 q.job.n q.payload q.destination_length q.out_length q.script
    ≡ report_of q c
job_is q c = in_numbers_lem q.job.direction q.job.address q.job.n q.payload q.destination_length q.out_length q.script c

abbrev Item-is : Controller → Item → Type 0
Item-is c i = (rule_gives c (asked_of i) ≡ given (step i c).seen) × (record_after c (asked_of i) ≡ (step i c).next)

item_is : (i : Item) (c : Controller) → Item-is c i
unfolding asked_of rule_gives record_after packed group_of tells report_bytes when◌then◌else◌
item_is (run_job q) c = (ap tells (job_is q c), ap (λ (r : Report). r.result.next) (job_is q c))
item_is (reset_pin argument) c = (refl, refl)
item_is (indptr value) c = (refl, refl)
item_is (register2 value) c = (refl, refl)
item_is (i2ccon value) c = (refl, refl)
item_is (anothers_start argument) c = (refl, refl)
item_is (anothers_stop argument) c = (refl, refl)
item_is (anothers_address byte) c = (refl, refl)

rules_observed : (items : List Item) (c : Controller) → rules_give c (all_asked items) ≡ all_given (observe items c)
unfolding rules_give all_asked observe
rules_observed [] c = refl
rules_observed (i ∷ items) c =
    let x = item_is i c in
    ap (λ (g : JobCall). g ∷ rules_give (record_after c (asked_of i)) (all_asked items)) x.0
    ∙ ap (λ (gs : List JobCall). given (step i c).seen ∷ gs)
    (ap (λ (d : Controller). rules_give d (all_asked items)) x.1 ∙ rules_observed items (step i c).next)

-- a finished read hands up what the bus carried, also by its call
job_carries : (report : ℕ) (m : List ℕ) (q : GivenJob) → call_gives report m (job (in_numbers q)) ≡ tells (report_of q (record_of m)) →
    HandsUpCarried q (report_of q (record_of m)) → CallCarries report m (run_job q)
unfolding tells
job_carries report m q e carry zero read =
    let up = carry (sym (ap (λ (g : JobCall). g.answer) e) ∙ zero) read in
    (ap (λ (g : JobCall). g.handed) e ∙ up.0, ap (λ (g : JobCall). length g.handed) e ∙ up.1)

-- of one item
call_carries : (report : ℕ) (m : List ℕ) (i : Item) (rest : List Item) → call_gives report m (asked_of i) ≡ rule_gives (record_of m) (asked_of i) →
    AllCarry (i ∷ rest) (record_of m) → CallCarries report m i
unfolding asked_of rule_gives
call_carries report m (run_job q) rest e carry = job_carries report m q (e ∙ ap tells (job_is q (record_of m))) carry.0
call_carries report m (reset_pin argument) rest e carry = tt
call_carries report m (indptr value) rest e carry = tt
call_carries report m (register2 value) rest e carry = tt
call_carries report m (i2ccon value) rest e carry = tt
call_carries report m (anothers_start argument) rest e carry = tt
call_carries report m (anothers_stop argument) rest e carry = tt
call_carries report m (anothers_address byte) rest e carry = tt

calls-carry : (report : ℕ) (items : List Item) (m : List ℕ) → 12 ≤ report → is_record m ≡ true → AllCarry items (record_of m) → CallsCarry report m items
calls-carry report [] m room there carry = tt
calls-carry report (i ∷ items) m room there carry =
    let one = one-call report m (asked_of i) room there in
    let left = one.1.1 ∙ (item_is i (record_of m)).1 in
    (call_carries report m i items one.0 carry, calls-carry report items _ room one.1.0 (subst (AllCarry items) (sym left) carry.1))

-- DEMAND 3 OF THE CALLS.
pub demand_3_of_calls : Demand3OfCalls
demand_3_of_calls report items m m' room there long e =
    let there' = both_records m m' e there long in
    let d = demand_3 items (record_of m) (record_of m') (alike m m' e there there') in
    let observed : (l : List ℕ) → is_record l ≡ true → calls_give report l (all_asked items) ≡ all_given (observe items (record_of l)) =
    λ l is. (chip_is_controller report l (all_asked items) room is).0 ∙ rules_observed items (record_of l) in (
      observed m there ∙ ap all_given d.same ∙ sym (observed m' there'),
      calls-carry report items m room there d.carry,
      calls-carry report items m' room there' d.carry',
    )
