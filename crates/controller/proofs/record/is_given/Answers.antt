-- `is_given` meets its promise at each return.
use mathlib.Core.Bool.{true}
use mathlib.Core.Path.{sym}
use Rattle.controller.specs.Record.{given_statuses}
use Rattle.notation.proofs.Among.{keys_in, none_of}
use Rattle.controller.proofs.record.is_given.Goals as goal

pub returns-in-0 : goal.returns-in-0
returns-in-0 c = sym (keys_in given_statuses c.args.status c.in-0.is true given_statuses tt)

pub returns-in_default : goal.returns-in_default
returns-in_default c = sym (none_of given_statuses c.args.status c.in_default.in_default-own.rest.1)
