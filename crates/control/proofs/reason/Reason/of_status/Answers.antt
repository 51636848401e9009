-- `of_status` is `reason_of`: the arm taken settles the tests of the definition.
use Rattle.control.specs.Reason.{count_reached, nacked, ended_outside, arbitration_lost, reason_of}
use Rattle.control.specs.Turn.{faults}
use Rattle.notation.proofs.Among.{keys_in, none_of}
use Rattle.notation.proofs.Cases.{cases}
use Rattle.control.proofs.reason.Reason.of_status.Goals as goal

pub returns-in-24 : goal.returns-in-24
unfolding reason_of
returns-in-24 c = search (keys_in count_reached c.args.status c.in-24.is, cases)

pub returns-in-32 : goal.returns-in-32
unfolding reason_of
returns-in-32 c = search (keys_in nacked c.args.status c.in-32.is, cases)

pub returns-in-160 : goal.returns-in-160
unfolding reason_of
returns-in-160 c = search (keys_in ended_outside c.args.status c.in-160.is, cases)

pub returns-in-56 : goal.returns-in-56
unfolding reason_of
returns-in-56 c = search (keys_in arbitration_lost c.args.status c.in-56.is, cases)

pub returns-in-0 : goal.returns-in-0
unfolding reason_of
returns-in-0 c = search (keys_in faults c.args.status c.in-0.is, cases)

pub returns-in_default : goal.returns-in_default
unfolding reason_of
returns-in_default c =
    let status = c.args.status in
    let rest = c.in_default.in_default-own.rest in
    search (
      none_of faults status rest.1,
      none_of arbitration_lost status rest.0.1,
      none_of ended_outside status rest.0.0.1,
      none_of nacked status rest.0.0.0.1,
      none_of count_reached status rest.0.0.0.0.1,
      cases,
    )
