-- The request that a group is comes to what the group does. Assumes nothing.
use mathlib.Core.Path.{◌≡◌, refl, sym, ◌∙◌}
use Prim.Native.Nat.{ℕ}
use Rattle.controller.specs.Access.{read_of, write_of}
use Rattle.controller.specs.Event.{event_of}
use Rattle.controller.specs.declared.record.Controller.{Controller}
use Rattle.notation.proofs.Cases.{split, when-true, when-false}
use Rattle.notation.specs.Choice.{when◌then◌else◌}
use Rattle.requests.specs.Groups.{group_of, request_of, request_kind, request_place, request_value}
use Rattle.requests.specs.declared.groups.Request.TheVariants.{Read, Write, Event}
use Rattle.requests.specs.declared.groups.Request.{Request}

reads : (c : Controller) (place : ℕ) → group_of c 0 place 0 ≡ read_of c place
unfolding group_of when◌then◌else◌
reads c place = refl

writes : (c : Controller) (place value : ℕ) → group_of c 1 place value ≡ write_of c place value
unfolding group_of when◌then◌else◌
writes c place value = refl

events : (c : Controller) (place value : ℕ) → group_of c 2 place value ≡ event_of c place value
unfolding group_of when◌then◌else◌
events c place value = refl

pub as_asked : (c : Controller) (kind place value : ℕ) →
    let r = request_of kind place value in
    group_of c (request_kind r) (request_place r) (request_value r) ≡ group_of c kind place value
unfolding group_of request_of
as_asked c kind place value =
    split Same _ (Read place) _ (λ zero. reads c place ∙ sym (when-true _ _ _ zero))
    (λ other. split Same _ (Write place value) (Event place value)
    (λ one. writes c place value ∙ sym (when-false _ _ _ other ∙ when-true _ _ _ one))
    (λ more. events c place value ∙ sym (when-false _ _ _ other ∙ when-false _ _ _ more)))
  where
    Same : Request → Type 0
    Same r = group_of c (request_kind r) (request_place r) (request_value r) ≡ group_of c kind place value
