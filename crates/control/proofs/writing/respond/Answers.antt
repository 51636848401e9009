-- `respond` is `response`: what is known at each return settles the tests of the definition.
use mathlib.Core.List.{[], ◌∷◌}
use mathlib.Core.Path.{◌∙◌}
use Rattle.control.specs.Turn.{kind, status_of, edge_of, off, host}
use Rattle.control.specs.Writing.{response}
use Rattle.notation.proofs.Cases.{cases}
use Rattle.notation.specs.Choice.{among, when◌then◌else◌}
use Rattle.control.proofs.Turning.{at_turn, at_turns, except}
use borrow.Enum.Refused.{opened}
use Rattle.control.proofs.writing.respond.Goals as goal

pub returns-in-Off : goal.returns-in-Off
unfolding response
returns-in-Off c = search (at_turn off c.args.turn c.in-Off.in-Off-own.keys1, cases)

pub returns-in-Host : goal.returns-in-Host
unfolding response kind status_of edge_of among when◌then◌else◌
returns-in-Host c = c.respond_at.ensures ∙ rw c.in-Host.is

pub returns-in_default : goal.returns-in_default
unfolding response
returns-in_default c = search (at_turns (except (off ∷ host ∷ [])) c.args.turn (opened c.in_default.in_default-own.keys3), cases)
