-- `interrupts` meets its promise at each return.
use mathlib.Core.Bool.{true, false}
use mathlib.Core.List.{[], ◌∷◌}
use mathlib.Core.Path.{sym, refl}
use Rattle.control.specs.Turn.{host}
use Rattle.control.proofs.Turning.{at_turn, at_turns, except}
use borrow.Enum.Refused.{opened}
use Rattle.control.proofs.turn.Turn.interrupts.Goals as goal

pub returns-in-Host : goal.returns-in-Host
returns-in-Host c = sym (at_turn host c.args.self c.in-Host.in-Host-own.keys1 true (host ∷ []) refl)

pub returns-in_default : goal.returns-in_default
returns-in_default c = sym (at_turns (except (host ∷ [])) c.args.self (opened c.in_default.in_default-own.keys2) false (host ∷ []) tt)
