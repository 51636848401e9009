-- `move_is_sound` is `move_sound`: what is known at each return settles the tests of the definition.
use mathlib.Core.Path.{sym, ◌∙◌}
use Rattle.controller.specs.Record.{move_sound}
use Rattle.notation.proofs.Cases.{cases}
use Rattle.controller.proofs.record.Controller.move_is_sound.Goals as goal

pub returns-then-not-moves_data : goal.returns-then-not-moves_data
unfolding move_sound
returns-then-not-moves_data c = search (sym c.moves_data.ensures ∙ c.if-not-moves_data.true, cases)

pub returns-then-not-self : goal.returns-then-not-self
unfolding move_sound
returns-then-not-self c = search (sym c.moves_data.ensures ∙ c.if-not-moves_data.false, cases)

pub returns-then-self-count : goal.returns-then-self-count
unfolding move_sound
returns-then-self-count c = search (sym c.moves_data.ensures ∙ c.if-not-moves_data.false, cases)

pub returns-else-self-count : goal.returns-else-self-count
unfolding move_sound
returns-else-self-count c = search (sym c.moves_data.ensures ∙ c.if-not-moves_data.false, cases)
