-- `bars_read` is `bars_read`: what is known at each return settles the tests of the definition.
use mathlib.Core.Path.{sym, ◌∙◌}
use Rattle.controller.specs.Access.{bars_read}
use Rattle.notation.proofs.Cases.{cases}
use Rattle.controller.proofs.record.Controller.bars_read.Goals as goal

pub returns-then-on_wire : goal.returns-then-on_wire
unfolding bars_read
returns-then-on_wire c = search (sym c.on_wire.ensures ∙ c.if-on_wire.true, cases)

pub returns-else-on_wire : goal.returns-else-on_wire
unfolding bars_read
returns-else-on_wire c = search (sym c.on_wire.ensures ∙ c.if-on_wire.false, cases)
