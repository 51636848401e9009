-- `has_bad_count` is `bad_count`: what is known at each return settles the tests of the definition.
use mathlib.Core.Path.{sym, ◌∙◌}
use Rattle.controller.specs.I2ccon.{bad_count}
use Rattle.notation.proofs.Cases.{cases}
use Rattle.controller.proofs.record.Controller.has_bad_count.Goals.{then-k, else-k}
use Rattle.controller.proofs.record.Controller.has_bad_count.Goals as goal

pub returns-then-count-eq0 : goal.returns-then-count-eq0
unfolding bad_count
returns-then-count-eq0 c =
    elim c.if-k.branch [
      | then-k w ↦ search (w.if-k.true, sym w.moves_data.ensures ∙ sym w.value-is ∙ c.if-moves_data.true, cases)
      | else-k w ↦ cc
    ]

pub returns-else-count-eq0 : goal.returns-else-count-eq0
unfolding bad_count
returns-else-count-eq0 c =
    elim c.if-k.branch [
      | then-k w ↦ search (w.if-k.true, sym w.moves_data.ensures ∙ sym w.value-is ∙ c.if-moves_data.true, cases)
      | else-k w ↦ cc
    ]

pub returns-else-moves_data : goal.returns-else-moves_data
unfolding bad_count
returns-else-moves_data c =
    elim c.if-k.branch [
      | then-k w ↦ search (c.if-moves_data.false, sym w.moves_data.ensures ∙ sym w.value-is ∙ c.if-moves_data.false, cases)
      | else-k w ↦ search (c.if-moves_data.false, w.if-k.false, cases)
    ]
