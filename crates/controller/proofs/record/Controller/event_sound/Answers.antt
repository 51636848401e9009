-- `event_sound` is `event_sound`: what is known at each return settles the tests of the definition.
use mathlib.Core.Path.{◌∙◌}
use borrow.Author.Tests.{ne_eqb}
use Rattle.controller.proofs.Outcomes.{outcomes}
use Rattle.controller.specs.Event.{event_sound}
use Rattle.notation.specs.Choice.{when◌then◌else◌}
use Rattle.controller.proofs.record.Controller.event_sound.Goals as goal

pub returns-in-1 : goal.returns-in-1
unfolding event_sound when◌then◌else◌
returns-in-1 c = c.own_start.ensures ∙ rw c.in-1.is

pub returns-in-2 : goal.returns-in-2
unfolding event_sound when◌then◌else◌
returns-in-2 c = c.other_start.ensures ∙ rw c.in-2.is

pub returns-in-3 : goal.returns-in-3
unfolding event_sound when◌then◌else◌
returns-in-3 c = c.other_stop.ensures ∙ rw c.in-3.is

pub returns-in-4 : goal.returns-in-4
unfolding event_sound when◌then◌else◌
returns-in-4 c = c.own_stop.ensures ∙ rw c.in-4.is

pub returns-in-5 : goal.returns-in-5
unfolding event_sound when◌then◌else◌
returns-in-5 c = c.address_byte.ensures ∙ rw c.in-5.is

pub returns-in-6 : goal.returns-in-6
unfolding event_sound when◌then◌else◌
returns-in-6 c = c.byte_out.ensures ∙ rw c.in-6.is

pub returns-in-7 : goal.returns-in-7
unfolding event_sound when◌then◌else◌
returns-in-7 c = c.byte_in.ensures ∙ rw c.in-7.is

pub returns-in-8 : goal.returns-in-8
unfolding event_sound when◌then◌else◌
returns-in-8 c = c.address_lost.ensures ∙ rw c.in-8.is

pub returns-in-9 : goal.returns-in-9
unfolding event_sound when◌then◌else◌
returns-in-9 c = c.data_lost.ensures ∙ rw c.in-9.is

pub returns-in-10 : goal.returns-in-10
unfolding event_sound when◌then◌else◌
returns-in-10 c = c.illegal_edge.ensures ∙ rw c.in-10.is

pub returns-in-11 : goal.returns-in-11
unfolding event_sound when◌then◌else◌
returns-in-11 c = c.data_held.ensures ∙ rw c.in-11.is

pub returns-in-12 : goal.returns-in-12
unfolding event_sound when◌then◌else◌
returns-in-12 c = c.clock_held.ensures ∙ rw c.in-12.is

pub returns-in-13 : goal.returns-in-13
unfolding event_sound when◌then◌else◌
returns-in-13 c = c.idle.ensures ∙ rw c.in-13.is

pub returns-in_default : goal.returns-in_default
unfolding event_sound
returns-in_default c =
    let number = c.args.number in
    let rest = c.in_default.in_default-own.rest in
    search (
      ne_eqb number 13 rest.1,
      ne_eqb number 12 rest.0.1,
      ne_eqb number 11 rest.0.0.1,
      ne_eqb number 10 rest.0.0.0.1,
      ne_eqb number 9 rest.0.0.0.0.1,
      ne_eqb number 8 rest.0.0.0.0.0.1,
      ne_eqb number 7 rest.0.0.0.0.0.0.1,
      ne_eqb number 6 rest.0.0.0.0.0.0.0.1,
      ne_eqb number 5 rest.0.0.0.0.0.0.0.0.1,
      ne_eqb number 4 rest.0.0.0.0.0.0.0.0.0.1,
      ne_eqb number 3 rest.0.0.0.0.0.0.0.0.0.0.1,
      ne_eqb number 2 rest.0.0.0.0.0.0.0.0.0.0.0.1,
      ne_eqb number 1 rest.0.0.0.0.0.0.0.0.0.0.0.0.1,
      outcomes,
    )
