-- `access` is `group_of`: so is the request that the group is.
use mathlib.Core.Path.{◌∙◌}
use Rattle.controller.specs.Reply.{outcome_of}
use Rattle.requests.proofs.Asked.{as_asked}
use Rattle.requests.proofs.groups.access.Goals as goal

pub returns : goal.returns
unfolding outcome_of
returns c = (rw c.from.ensures at c.perform-answer.ensures) ∙ as_asked c.args.c c.args.kind c.args.place c.args.value
