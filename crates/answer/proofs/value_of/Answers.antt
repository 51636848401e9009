-- `value_of` is `value_of`: by what the answer is.
use mathlib.Core.Path.{◌≡◌, refl, ◌∙◌}
use Rattle.answer.specs.Refusal.{Answer, value_of}
use Rattle.std.specs.Prelude.{Ok, Err}
use Rattle.std.specs.Result.{result_unwrap_or}
use Rattle.answer.proofs.value_of.Goals as goal

unwrapped : (answer : Answer) → result_unwrap_or answer 0 ≡ value_of answer
unfolding value_of
unwrapped (Ok value) = refl
unwrapped (Err why) = refl

pub returns : goal.returns
returns c = c.unwrap_or.ensures ∙ unwrapped c.args.answer
