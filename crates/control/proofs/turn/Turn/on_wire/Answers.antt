-- `on_wire` meets its promise at each return.
use mathlib.Core.Bool.{true, false}
use mathlib.Core.List.{[], ◌∷◌}
use mathlib.Core.Path.{sym}
use Rattle.control.specs.Turn.{wire_turns}
use Rattle.control.proofs.Turning.{at_turns, except}
use borrow.Enum.Refused.{opened}
use Rattle.control.proofs.turn.Turn.on_wire.Goals as goal

pub returns-in-Address : goal.returns-in-Address
returns-in-Address c = sym (at_turns wire_turns c.args.self (opened c.in-Address.in-Address-own.keys1) true wire_turns tt)

pub returns-in_default : goal.returns-in_default
returns-in_default c = sym (at_turns (except wire_turns) c.args.self c.in_default.in_default-own.keys2 false wire_turns tt)
