-- `write_data` is `write_data`: what is known at each return settles the tests of the definition.
use Rattle.answer.specs.Refusal.{refusal_of, value_of}
use Rattle.controller.specs.Registers.{write_data, wrote}
use Rattle.controller.specs.Reply.{outcome, refuses, accepts}
use Rattle.notation.proofs.Cases.{cases}
use Rattle.controller.proofs.record.Controller.write_data.Goals as goal

pub returns-then-self-eq68 : goal.returns-then-self-eq68
unfolding write_data outcome refusal_of value_of refuses
returns-then-self-eq68 c = search cases

pub returns : goal.returns
unfolding write_data wrote outcome refusal_of value_of accepts
returns c = search cases
