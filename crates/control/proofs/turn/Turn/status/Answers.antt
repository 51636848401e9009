-- `status` is `status_of`: what is known at each return settles the tests of the definition.
use mathlib.Core.Bool.{false}
use mathlib.Core.List.{[], ◌∷◌}
use mathlib.Core.Path.{sym}
use Rattle.control.specs.Turn.{status_of, host}
use Rattle.control.proofs.Turning.{at_turns, status-idle, except}
use borrow.Enum.Refused.{opened}
use Rattle.control.proofs.turn.Turn.status.Goals as goal

pub returns-in-Host : goal.returns-in-Host
unfolding status_of
returns-in-Host c = rw c.in-Host.is

pub returns-in_default : goal.returns-in_default
returns-in_default c = sym (status-idle c.args.self (at_turns (except (host ∷ [])) c.args.self (opened c.in_default.in_default-own.keys2) false (host ∷ []) tt))
