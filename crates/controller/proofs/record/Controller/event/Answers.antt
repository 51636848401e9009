-- `event` is `event_of`: it is `on_event` on a record by value.
use mathlib.Core.Path.{◌∙◌}
use Rattle.controller.specs.Reply.{outcome_of}
use Rattle.controller.proofs.record.Controller.event.Goals as goal

pub returns : goal.returns
unfolding outcome_of
returns c = c.on_event-answer.ensures
