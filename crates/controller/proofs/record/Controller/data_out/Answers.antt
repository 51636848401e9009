-- `data_out` is `data_out`: what is known at each return settles the tests of the definition.
use mathlib.Core.Path.{sym, ◌∙◌}
use native.Mathlib.Omega.{arith}
use Rattle.answer.specs.Refusal.{refusal_of, value_of}
use Rattle.controller.proofs.SoundParts.{cursor-below}
use Rattle.controller.specs.Reply.{outcome, accepts}
use Rattle.controller.specs.Transfer.{data_out}
use Rattle.notation.proofs.Cases.{cases}
use Rattle.controller.proofs.record.Controller.data_out.Goals as goal

pub bounds-self-cursor : goal.bounds-self-cursor
bounds-self-cursor c = omega (arith, c.cursor.ensures, cursor-below c.args.self.now c.requires)

pub returns-then-argument-eq1 : goal.returns-then-argument-eq1
unfolding data_out
returns-then-argument-eq1 c = c.give.ensures ∙ rw c.cursor.ensures (search cases)

pub returns-then-last : goal.returns-then-last
unfolding data_out
returns-then-last c =
    c.give-then-last.ensures ∙ rw c.cursor.ensures (search (sym c.is_last-last.ensures ∙ c.if-last.true, cases))

pub returns-else-last : goal.returns-else-last
unfolding data_out outcome refusal_of value_of accepts
returns-else-last c = rw c.cursor.ensures (search (sym c.is_last-last.ensures ∙ c.if-last.false, cases))
