-- `write_at_pointer` is `write_at_pointer`: what is known at each return settles the tests of the definition.
use Rattle.answer.specs.Refusal.{refusal_of, value_of}
use Rattle.controller.specs.Registers.{wrote, write_at_pointer}
use Rattle.controller.specs.Reply.{outcome, accepts}
use Rattle.notation.proofs.Cases.{cases}
use Rattle.controller.proofs.record.Controller.write_at_pointer.Goals as goal

pub returns-then-self-eq5 : goal.returns-then-self-eq5
unfolding write_at_pointer
returns-then-self-eq5 c = search cases

pub returns : goal.returns
unfolding write_at_pointer wrote outcome refusal_of value_of accepts
returns c = rw c.store.ensures (search cases)
