-- `refusal_of` is `refusal_of`.
use mathlib.Core.Path.{◌∙◌}
use Rattle.answer.specs.Refusal.{refusal_of}
use Rattle.answer.proofs.refusal_of.Goals as goal

pub returns-in-Ok : goal.returns-in-Ok
unfolding refusal_of
returns-in-Ok c = rw c.in-Ok.is

pub returns-in-Err : goal.returns-in-Err
unfolding refusal_of
returns-in-Err c = c.number.ensures ∙ rw c.in-Err.is
