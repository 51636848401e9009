-- The three-byte groups of a trace (README, the bench program): `00 R 00` reads register R, `01 R V` writes V to it, `02 N A` gives
-- event N with argument A. Each is what document 01, Registers and Events, makes of that access or event.
use Rattle.std.specs.Prelude.{ℕ, eqb}
use Rattle.controller.specs.Access.{read_of, write_of}
use Rattle.controller.specs.Event.{event_of}
use Rattle.controller.specs.Reply.{Outcome}
use Rattle.controller.specs.declared.record.Controller.{Controller}
use Rattle.notation.specs.Choice.{when◌then◌else◌}
use Rattle.requests.specs.declared.groups.Request.TheVariants.{Read, Write, Event}
use Rattle.requests.specs.declared.groups.Request.{Request}

-- kind 0 and 1 as above, any other an event; a read looks at no third byte
unfoldable pub group_of : Controller → ℕ → ℕ → ℕ → Outcome
group_of c kind place value =
    when eqb kind 0 then read_of c place
    else when eqb kind 1 then write_of c place value
    else event_of c place value

-- the request that a group is
unfoldable pub request_of : ℕ → ℕ → ℕ → Request
request_of kind place value = when eqb kind 0 then Read place else when eqb kind 1 then Write place value else Event place value

-- a group that is this request
abbrev pub request_kind : Request → ℕ
request_kind (Read register) = 0
request_kind (Write register value) = 1
request_kind (Event event argument) = 2

abbrev pub request_place : Request → ℕ
request_place (Read register) = register
request_place (Write register value) = register
request_place (Event event argument) = event

abbrev pub request_value : Request → ℕ
request_value (Read register) = 0
request_value (Write register value) = value
request_value (Event event argument) = argument
