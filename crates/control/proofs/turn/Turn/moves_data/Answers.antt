-- `moves_data` meets its promise at each return.
use mathlib.Core.Bool.{true, false}
use mathlib.Core.List.{[], ◌∷◌}
use mathlib.Core.Path.{sym}
use Rattle.control.specs.Turn.{data_turns, send, receive, slave_receive, slave_send}
use Rattle.control.proofs.Turning.{at_turns, except}
use borrow.Enum.Refused.{opened}
use Rattle.control.proofs.turn.Turn.moves_data.Goals as goal

pub returns-in-Send : goal.returns-in-Send
returns-in-Send c = sym (at_turns (send ∷ receive ∷ slave_receive ∷ slave_send ∷ []) c.args.self c.in-Send.in-Send-own.keys1 true data_turns tt)

pub returns-in_default : goal.returns-in_default
returns-in_default c = sym (at_turns (except (send ∷ receive ∷ slave_receive ∷ slave_send ∷ [])) c.args.self (opened c.in_default.in_default-own.keys2) false data_turns tt)
