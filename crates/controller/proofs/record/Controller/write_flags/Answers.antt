-- `write_flags` is `write_flags`: what is known at each return settles the tests of the definition.
use mathlib.Core.Path.{◌∙◌}
use Rattle.answer.specs.Refusal.{refusal_of, value_of}
use Rattle.control.specs.Turn.{faults}
use Rattle.controller.specs.I2ccon.{write_flags}
use Rattle.controller.specs.Reply.{outcome, refuses}
use Rattle.notation.proofs.Among.{keys_in, none_of}
use Rattle.notation.proofs.Cases.{cases}
use Rattle.controller.proofs.record.Controller.write_flags.Goals as goal

pub returns-in-0 : goal.returns-in-0
unfolding write_flags outcome refusal_of value_of refuses
returns-in-0 c =
    rw (← c.status.ensures) (search (keys_in faults c.status.result c.in-0.is, cases))

pub returns-in_default : goal.returns-in_default
unfolding write_flags
returns-in_default c =
    c.enable.ensures ∙ rw (c.respond.ensures, ← c.status.ensures)
    (search (none_of faults c.status.result c.in_default.in_default-own.rest.1, cases))

pub returns-in_default-2 : goal.returns-in_default-2
unfolding write_flags
returns-in_default-2 c =
    c.accept_control.ensures ∙ rw (← c.status.ensures) (search (none_of faults c.status.result c.in_default.in_default-own.rest.1, cases))
