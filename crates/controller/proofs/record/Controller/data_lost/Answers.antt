-- `data_lost` is `data_lost`: what is known at each return settles the tests of the definition.
use mathlib.Core.List.{[], ◌∷◌}
use Rattle.control.proofs.Turning.{at_turns, except}
use Rattle.control.specs.Turn.{send, receive}
use Rattle.controller.proofs.Outcomes.{outcomes}
use Rattle.controller.specs.Condition.{data_lost}
use borrow.Enum.Refused.{opened}
use Rattle.controller.proofs.record.Controller.data_lost.Goals as goal

pub returns-in-Send : goal.returns-in-Send
unfolding data_lost
returns-in-Send c = search (at_turns (send ∷ receive ∷ []) c.args.self.now.turn c.in-Send.in-Send-own.keys1, outcomes)

pub returns-in_default : goal.returns-in_default
unfolding data_lost
returns-in_default c = search (at_turns (except (send ∷ receive ∷ [])) c.args.self.now.turn (opened c.in_default.in_default-own.keys2), outcomes)
