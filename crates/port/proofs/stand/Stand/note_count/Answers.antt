-- `note_count` notes what its promise says: the count is read by the second access at 30h, and by no other.
use mathlib.Core.Bool.{false≢true}
use mathlib.Core.Path.{◌≡◌, refl, sym, ◌∙◌}
use Prim.Native.Nat.{ℕ, zero, suc}
use borrow.Author.Tests.{eqb-true, eqb-false, ne_eqb}
use Rattle.answer.specs.declared.ending.Ending.TheVariants.{DataNacked}
use Rattle.notation.specs.Choice.{when◌then◌else◌, among}
use Rattle.port.proofs.Totals.{nth-all, line-all}
use Rattle.port.specs.InHand.{accesses, nth, count_after}
use Rattle.service.specs.Act.{Act}
use Rattle.service.specs.JobSteps.{finds_moved, stop_after}
use Rattle.service.specs.JobTable.{job_table}
use Rattle.port.proofs.stand.Stand.note_count.Goals as goal
use Rattle.port.proofs.stand.Stand.note_count.Goals.{else-self-eq48-via-then-self-eq48+else-second, else-self-eq48-via-else-self-eq48}

abbrev Keeps : ℕ → ℕ → Act → Type 0
Keeps count value x = count_after x count value ≡ count

-- at 30h, but for the second
other : (made count value : ℕ) → (made ≡ 1 → ⊥) → count_after (nth (stop_after finds_moved DataNacked).acts made) count value ≡ count
unfolding nth count_after
other zero count value h = refl
other (suc zero) count value h = absurd (h refl)
other (suc (suc zero)) count value h = refl
other (suc (suc (suc made))) count value h = refl

pub returns-then-second : goal.returns-then-second
unfolding job_table among when◌then◌else◌ accesses nth count_after
returns-then-second c payload = rw (c.if-self-eq48.true, eqb-true c.args.self.made 1 c.if-second.true-raw)

pub returns-else-self-eq48 : goal.returns-else-self-eq48
unfolding job_table among when◌then◌else◌ accesses count_after
returns-else-self-eq48 c payload =
    let s = c.args in
    elim c.else-self-eq48.branch [
      | else-self-eq48-via-then-self-eq48+else-second w ↦
          rw (w.if-self-eq48.true, other s.self.made s.self.count s.value (eqb-false s.self.made 1 w.if-second.false-raw))
      | else-self-eq48-via-else-self-eq48 w ↦
          sym (nth-all (Keeps s.self.count s.value) _ s.self.made refl
          (line-all (Keeps s.self.count s.value) s.self.job payload s.self.status s.self.count (λ _ _. refl)
          (λ at30. absurd (false≢true (sym (ne_eqb s.self.status 0x30 w.if-self-eq48.false) ∙ at30))) (λ _ _. refl)))
    ]
