-- `read_data` is `read_data`: what is known at each return settles the tests of the definition.
use Rattle.answer.specs.Refusal.{refusal_of, value_of}
use Rattle.controller.specs.Registers.{read_data}
use Rattle.controller.specs.Reply.{outcome, refuses, accepts}
use Rattle.notation.proofs.Cases.{cases}
use Rattle.controller.proofs.record.Controller.read_data.Goals as goal

pub returns-then-self-eq68 : goal.returns-then-self-eq68
unfolding read_data outcome refusal_of value_of refuses
returns-then-self-eq68 c = search cases

pub returns : goal.returns
unfolding read_data outcome refusal_of value_of accepts
returns c = search cases
