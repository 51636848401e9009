-- `beside` is `beside_table`: the arm's turn settles the tests of the definition.
use mathlib.Core.List.{[], ◌∷◌}
use mathlib.Core.Path.{◌∙◌}
use Rattle.control.proofs.Turning.{at_turn, at_turns, except}
use Rattle.control.specs.Turn.{off, host, free, busy, listen, kind, edge_of}
use Rattle.controller.proofs.Outcomes.{outcomes}
use Rattle.notation.specs.Choice.{among, when◌then◌else◌}
use Rattle.responses.specs.Engine.{beside_table}
use borrow.Enum.Refused.{opened}
use Rattle.responses.proofs.engine.beside.Goals as goal

pub returns-in-Off : goal.returns-in-Off
unfolding beside_table
returns-in-Off c = c.accept.ensures ∙ search (at_turn off c.args.c.now.turn c.in-Off.in-Off-own.keys1, outcomes)

pub returns-in-Host : goal.returns-in-Host
unfolding beside_table kind edge_of among when◌then◌else◌
returns-in-Host c = c.accept-in-Host.ensures ∙ rw (c.after_edge.ensures, c.in-Host.is)

pub returns-in-Free : goal.returns-in-Free
unfolding beside_table
returns-in-Free c = c.accept-in-Free.ensures ∙ search (at_turns (free ∷ busy ∷ listen ∷ []) c.args.c.now.turn c.in-Free.in-Free-own.keys3, outcomes)

pub returns-in_default : goal.returns-in_default
unfolding beside_table
returns-in_default c = search (at_turns (except (off ∷ host ∷ free ∷ busy ∷ listen ∷ [])) c.args.c.now.turn (opened c.in_default.in_default-own.keys4), outcomes)
