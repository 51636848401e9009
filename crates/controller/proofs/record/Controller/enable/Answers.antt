-- `enable` is `enabled`: what is known at each return settles the tests of the definition.
use mathlib.Core.Path.{sym, ◌∙◌}
use Rattle.answer.specs.Refusal.{refusal_of, value_of}
use Rattle.controller.specs.I2ccon.{enabled}
use Rattle.controller.specs.Reply.{outcome, refuses}
use Rattle.notation.proofs.Cases.{cases}
use Rattle.controller.proofs.record.Controller.enable.Goals as goal

pub returns-in_default : goal.returns-in_default
unfolding enabled outcome refusal_of value_of refuses
returns-in_default c = rw c.in_default.is

pub returns-then-has_bad_count : goal.returns-then-has_bad_count
unfolding enabled outcome refusal_of value_of refuses
returns-then-has_bad_count c = rw c.in-Some.is (search (sym c.has_bad_count.ensures ∙ c.if-has_bad_count.true, cases))

pub returns : goal.returns
unfolding enabled
returns c = c.accept_control.ensures ∙ rw c.in-Some.is (search (sym c.has_bad_count.ensures ∙ c.if-has_bad_count.false, cases))
