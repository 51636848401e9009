-- `write_preset` is `write_preset`: what is known at each return settles the tests of the definition.
use mathlib.Core.Path.{sym, ◌∙◌}
use Rattle.answer.specs.Refusal.{refusal_of, value_of}
use Rattle.controller.specs.Reply.{outcome, accepts}
use Rattle.controller.specs.Reset.{write_preset}
use Rattle.notation.proofs.Cases.{cases}
use Rattle.controller.proofs.record.Controller.write_preset.Goals as goal

pub returns-then-completes_reset : goal.returns-then-completes_reset
unfolding write_preset outcome refusal_of value_of accepts
returns-then-completes_reset c = rw c.reset.ensures (search (sym c.completes_reset.ensures ∙ c.if-completes_reset.true, cases))

pub returns-else-completes_reset : goal.returns-else-completes_reset
unfolding write_preset outcome refusal_of value_of accepts
returns-else-completes_reset c = search (sym c.completes_reset.ensures ∙ c.if-completes_reset.false, cases)
