-- `disable` is `disabled`: what is known at each return settles the tests of the definition.
use mathlib.Core.Path.{sym, ◌∙◌}
use Rattle.control.specs.Turn.{faults}
use Rattle.controller.proofs.Outcomes.{outcomes}
use Rattle.notation.proofs.Among.{keys_in, none_of}
use Rattle.responses.specs.Engine.{disabled}
use Rattle.responses.proofs.engine.disable.Goals as goal

pub returns-then-on_wire : goal.returns-then-on_wire
unfolding disabled
returns-then-on_wire c = search (sym c.on_wire.ensures ∙ c.if-on_wire.true, outcomes)

pub returns-in-0 : goal.returns-in-0
unfolding disabled
returns-in-0 c =
    let free = sym c.on_wire.ensures ∙ c.if-on_wire.false in
    rw (← c.status.ensures) (search (keys_in faults c.status.result c.in-0.is, free, outcomes))

pub returns-in_default : goal.returns-in_default
unfolding disabled
returns-in_default c =
    let free = sym c.on_wire.ensures ∙ c.if-on_wire.false in
    c.accept.ensures ∙ rw (← c.status.ensures) (search (none_of faults c.status.result c.in_default.in_default-own.rest.1, free, outcomes))
