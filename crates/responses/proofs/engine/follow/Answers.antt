-- `follow` is `by_entry`, case by case.
use mathlib.Core.Path.{◌∙◌}
use Rattle.controller.proofs.Outcomes.{refused}
use Rattle.responses.specs.Engine.{by_entry}
use Rattle.responses.proofs.engine.follow.Goals as goal

pub returns-in-Never : goal.returns-in-Never
unfolding by_entry
returns-in-Never c = rw c.in-Never.is (refused _ _)

pub returns-in-Beside : goal.returns-in-Beside
unfolding by_entry
returns-in-Beside c = c.beside.ensures ∙ rw c.in-Beside.is

pub returns-in-Stays : goal.returns-in-Stays
unfolding by_entry
returns-in-Stays c = c.accept.ensures ∙ rw c.in-Stays.is

pub returns-in-Refused : goal.returns-in-Refused
unfolding by_entry
returns-in-Refused c = rw c.in-Refused.is (refused _ _)

pub returns-in-Next : goal.returns-in-Next
unfolding by_entry
returns-in-Next c = c.lead.ensures ∙ rw c.in-Next.is
