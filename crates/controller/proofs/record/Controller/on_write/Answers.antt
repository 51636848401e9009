-- `on_write` is `write_of`: what is known at each return settles the tests of the definition.
use mathlib.Core.Path.{sym, ◌∙◌}
use Rattle.answer.specs.Refusal.{refusal_of, value_of}
use Rattle.controller.specs.Access.{write_of}
use Rattle.controller.specs.Reply.{outcome, refuses}
use Rattle.notation.proofs.Cases.{cases}
use Rattle.controller.proofs.record.Controller.on_write.Goals as goal

pub returns-then-register-gt3 : goal.returns-then-register-gt3
unfolding write_of outcome refusal_of value_of refuses
returns-then-register-gt3 c = search cases

pub returns-then-not-is_sound : goal.returns-then-not-is_sound
unfolding write_of outcome refusal_of value_of refuses
returns-then-not-is_sound c = search (sym c.is_sound.ensures ∙ c.if-not-is_sound.true, cases)

pub returns : goal.returns
unfolding write_of
returns c = search (sym c.is_sound.ensures ∙ c.if-not-is_sound.false, cases)
