-- `on_event` is `event_of`: what is known at each return settles the tests of the definition.
use mathlib.Core.Path.{sym, ◌∙◌}
use Rattle.controller.proofs.Outcomes.{outcomes}
use Rattle.controller.specs.Event.{event_of}
use Rattle.controller.proofs.record.Controller.on_event.Goals as goal

pub returns-then-is_no_event : goal.returns-then-is_no_event
unfolding event_of
returns-then-is_no_event c = search (sym c.is_no_event.ensures ∙ c.if-is_no_event.true, outcomes)

pub returns-then-is_bad_argument : goal.returns-then-is_bad_argument
unfolding event_of
returns-then-is_bad_argument c =
    search (
      sym c.is_bad_argument.ensures ∙ c.if-is_bad_argument.true,
      sym c.is_no_event.ensures ∙ c.if-is_no_event.false,
      outcomes,
    )

pub returns-then-number-eq14 : goal.returns-then-number-eq14
unfolding event_of
returns-then-number-eq14 c =
    rw c.reset.ensures (search (
      sym c.is_bad_argument.ensures ∙ c.if-is_bad_argument.false,
      sym c.is_no_event.ensures ∙ c.if-is_no_event.false,
      outcomes,
    ))

pub returns-then-not-is_sound : goal.returns-then-not-is_sound
unfolding event_of
returns-then-not-is_sound c =
    search (
      sym c.is_sound.ensures ∙ c.if-not-is_sound.true,
      sym c.is_bad_argument.ensures ∙ c.if-is_bad_argument.false,
      sym c.is_no_event.ensures ∙ c.if-is_no_event.false,
      outcomes,
    )

pub returns : goal.returns
unfolding event_of
returns c =
    search (
      sym c.is_sound.ensures ∙ c.if-not-is_sound.false,
      sym c.is_bad_argument.ensures ∙ c.if-is_bad_argument.false,
      sym c.is_no_event.ensures ∙ c.if-is_no_event.false,
      outcomes,
    )
