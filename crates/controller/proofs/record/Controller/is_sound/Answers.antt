-- `is_sound` is `sound`: what is known at each return settles the tests of the definition.
use mathlib.Core.Path.{sym, ◌∙◌}
use Rattle.controller.specs.Record.{sound}
use Rattle.notation.proofs.Cases.{cases}
use Rattle.notation.specs.Choice.{◌and◌}
use Rattle.controller.proofs.record.Controller.is_sound.Goals as goal

pub returns-then-not-in_range : goal.returns-then-not-in_range
unfolding sound ◌and◌
returns-then-not-in_range c = search cases

pub returns-then-host_is_sound : goal.returns-then-host_is_sound
unfolding sound ◌and◌
returns-then-host_is_sound c = search (c.move_is_sound.ensures, sym c.host_is_sound.ensures ∙ c.if-host_is_sound.true, cases)

pub returns-else-host_is_sound : goal.returns-else-host_is_sound
unfolding sound ◌and◌
returns-else-host_is_sound c = search (sym c.host_is_sound.ensures ∙ c.if-host_is_sound.false, cases)
