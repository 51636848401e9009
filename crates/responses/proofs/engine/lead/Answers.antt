-- `lead` is `enabled`: what the test of BC told settles the test of the definition.
use mathlib.Core.Path.{sym, ◌∙◌}
use Rattle.controller.proofs.Outcomes.{outcomes}
use Rattle.controller.specs.I2ccon.{enabled}
use Rattle.responses.proofs.engine.lead.Goals as goal

pub returns-then-has_bad_count : goal.returns-then-has_bad_count
unfolding enabled
returns-then-has_bad_count c = search (sym c.has_bad_count.ensures ∙ c.if-has_bad_count.true, outcomes)

pub returns-else-has_bad_count : goal.returns-else-has_bad_count
unfolding enabled
returns-else-has_bad_count c = c.accept.ensures ∙ search (sym c.has_bad_count.ensures ∙ c.if-has_bad_count.false, outcomes)
