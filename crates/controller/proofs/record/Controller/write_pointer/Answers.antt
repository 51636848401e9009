-- `write_pointer` is `write_pointer`: the record that it leaves is the definition's.
use mathlib.Core.Path.{refl}
use Rattle.answer.specs.Refusal.{refusal_of, value_of}
use Rattle.controller.specs.Registers.{write_pointer, wrote}
use Rattle.controller.specs.Reply.{outcome, accepts}
use Rattle.controller.proofs.record.Controller.write_pointer.Goals as goal

pub returns : goal.returns
unfolding write_pointer wrote outcome refusal_of value_of accepts
returns c = refl
