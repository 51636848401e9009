-- Demand 3, proved: `demand_3`. What it says is in specs/OldBytes.antt; what one item does is in Items.antt. Assumes nothing.
use mathlib.Core.List.{List, [], ◌∷◌}
use mathlib.Core.Path.{◌≡◌, refl, ap}
use lib.ListN.{length}
use Rattle.controller.specs.declared.record.Controller.{Controller}
use Rattle.noninterference.proofs.Twin.{Twin}
use Rattle.noninterference.specs.OldBytes.{Item, run_job, reset_pin, indptr, register2, i2ccon, anothers_start, anothers_stop, anothers_address, of_step, Step, step, observe, Carries, AlikeButForPlaces, NoOldBytes, Demand3}
use Rattle.noninterference.proofs.Items.{StepSame, step_same, job_carries}

-- the reason is one of the items that twins share
compared_same : (s s' : Step) → StepSame s s' → of_step s ≡ of_step s'
compared_same s s' e = simp (e.seen, ap (λ (c : Controller). c.reason) e.twin.rest)

step_carries : (i : Item) (c : Controller) → length c.buffer ≡ 68 → Carries i c
step_carries (run_job q) c l = job_carries q c l
step_carries (reset_pin argument) c l = tt
step_carries (indptr value) c l = tt
step_carries (register2 value) c l = tt
step_carries (i2ccon value) c l = tt
step_carries (anothers_start argument) c l = tt
step_carries (anothers_stop argument) c l = tt
step_carries (anothers_address byte) c l = tt

list_same : (items : List Item) (c c' : Controller) → Twin c c' → NoOldBytes items c c'
unfolding observe
list_same [] c c' t = record { same = refl; carry = tt; carry' = tt }
list_same (i ∷ items) c c' t =
    let s = step_same i c c' t in
    let rest = list_same items (step i c).next (step i c').next s.twin in
    record {
      same = simp (compared_same _ _ s, rest.same);
      carry = (step_carries i c t.places, rest.carry);
      carry' = (step_carries i c' t.places', rest.carry');
    }

-- records that are equal item by item but for the places are twins
pub alike-twins : (c c' : Controller) → AlikeButForPlaces c c' → Twin c c'
alike-twins c c' a = record {
  rest = simp (a.hand, a.moved, a.pointer, a.armed, a.registers, a.control, a.turn, a.reason);
  places = a.buffer_length;
  places' = a.buffer_length';
}

-- DEMAND 3.
pub demand_3 : Demand3
demand_3 items c c' a = list_same items c c' (alike-twins c c' a)
