-- Document 01, Events: any event by its number, with the refusals in the table's order: 1, 2, 10, and then 8 by the event's own rule.
use Rattle.std.specs.Prelude.{Bool, false, ℕ, eqb, ltb}
use Rattle.controller.specs.Condition.{own_start, other_start, other_stop, own_stop, address_byte}
use Rattle.controller.specs.Condition.{address_lost, data_lost, illegal_edge, data_held, clock_held, idle}
use Rattle.controller.specs.Record.{sound}
use Rattle.controller.specs.Reply.{Outcome, no_value, refuses, accepts}
use Rattle.controller.specs.Reset.{reset}
use Rattle.controller.specs.Transfer.{byte_out, byte_in}
use Rattle.controller.specs.declared.record.Controller.{Controller}
use Rattle.notation.specs.Choice.{when◌then◌else◌, ◌or◌}

-- refusal 2: "event argument: not 0 where unused, over 1 for event 6". Events 5, 7 and 8 take any byte.
unfoldable pub bad_argument : ℕ → ℕ → Bool
bad_argument number argument =
    when eqb number 5 or eqb number 7 or eqb number 8 then false
    else when eqb number 6 then ltb 1 argument
    else ltb 0 argument

-- events 1 to 13, of a sound record. No other number gets here (`event_of`), and none would be expected.
unfoldable pub event_sound : Controller → ℕ → ℕ → Outcome
event_sound c number argument =
    when eqb number 1 then own_start c
    else when eqb number 2 then other_start c
    else when eqb number 3 then other_stop c
    else when eqb number 4 then own_stop c
    else when eqb number 5 then address_byte c argument
    else when eqb number 6 then byte_out c argument
    else when eqb number 7 then byte_in c argument
    else when eqb number 8 then address_lost c argument
    else when eqb number 9 then data_lost c
    else when eqb number 10 then illegal_edge c
    else when eqb number 11 then data_held c
    else when eqb number 12 then clock_held c
    else when eqb number 13 then idle c
    else refuses c 8

-- refusal 1: "event not 1..14"; 14: "Reset pin: always, as reset"; refusal 10: "the record isn't sound, save for event 14"
unfoldable pub event_of : Controller → ℕ → ℕ → Outcome
event_of c number argument =
    when eqb number 0 or ltb 14 number then refuses c 1
    else when bad_argument number argument then refuses c 2
    else when eqb number 14 then accepts (reset c) no_value
    else when sound c then event_sound c number argument
    else refuses c 10
