-- `host_is_sound` is `host_sound`: what is known at each return settles the tests of the definition.
use mathlib.Core.List.{[], ◌∷◌}
use mathlib.Core.Path.{◌∙◌}
use Rattle.control.proofs.Turning.{at_turns, except}
use Rattle.control.specs.Turn.{kind, status_of, host}
use Rattle.controller.specs.Record.{host_sound}
use Rattle.notation.proofs.Cases.{cases}
use Rattle.notation.specs.Choice.{among, when◌then◌else◌}
use borrow.Enum.Refused.{opened}
use Rattle.controller.proofs.record.host_is_sound.Goals as goal

pub returns-in-Host : goal.returns-in-Host
unfolding host_sound kind status_of among when◌then◌else◌
returns-in-Host c = c.is_given.ensures ∙ rw c.in-Host.is

pub returns-in_default : goal.returns-in_default
unfolding host_sound
returns-in_default c = search (at_turns (except (host ∷ [])) c.args.turn (opened c.in_default.in_default-own.keys2), cases)
