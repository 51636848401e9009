-- `bars_write` is `bars_write`: what is known at each return settles the tests of the definition.
use mathlib.Core.Path.{◌≡◌, ◌∙◌}
use lib.Dec.{eqb}
use Rattle.controller.specs.Access.{indirect_at, bars_write}
use Rattle.notation.proofs.Cases.{cases}
use Rattle.notation.specs.Choice.{◌and◌, ◌or◌}
use Rattle.controller.proofs.record.Controller.bars_write.Goals.{then-register-eq0, else-register-eq0, Joined-register-eq0}
use Rattle.controller.proofs.record.Controller.bars_write.Goals as goal

excepted_is : (c : Joined-register-eq0) → c.if-register-eq0.excepted ≡ (eqb c.args.register 0 or indirect_at c.args.self.now c.args.register 5)
excepted_is c =
    elim c.if-register-eq0.branch [
      | then-register-eq0 w ↦ w.excepted-is ∙ search cases
      | else-register-eq0 w ↦ w.excepted-is ∙ w.is_indirect_at-excepted.ensures ∙ search cases
    ]

pub returns-then-not-excepted : goal.returns-then-not-excepted
unfolding bars_write ◌and◌
returns-then-not-excepted c =
    let excepted = excepted_is (goal.at.returns-then-not-excepted c).Joined-register-eq0 in
    rw (← excepted, c.if-not-excepted.true) c.on_wire.ensures

pub returns-else-not-excepted : goal.returns-else-not-excepted
unfolding bars_write ◌and◌
returns-else-not-excepted c =
    let excepted = excepted_is (goal.at.returns-else-not-excepted c).Joined-register-eq0 in
    rw (← excepted, c.if-not-excepted.false)
