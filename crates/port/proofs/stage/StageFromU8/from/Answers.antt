-- `Stage::from` is `stage_for`: what is known at each return settles the tests of the definition.
use borrow.Author.Tests.{ne_eqb}
use Rattle.notation.proofs.Among.{key_is}
use Rattle.notation.proofs.Cases.{cases}
use Rattle.port.specs.Stage.{stage_for}
use Rattle.port.proofs.stage.StageFromU8.from.Goals as goal

pub returns-in-1 : goal.returns-in-1
unfolding stage_for
returns-in-1 c = search (key_is 1 c.args.k c.in-1.is, cases)

pub returns-in-2 : goal.returns-in-2
unfolding stage_for
returns-in-2 c = search (key_is 2 c.args.k c.in-2.is, cases)

pub returns-in-3 : goal.returns-in-3
unfolding stage_for
returns-in-3 c = search (key_is 3 c.args.k c.in-3.is, cases)

pub returns-in-4 : goal.returns-in-4
unfolding stage_for
returns-in-4 c = search (key_is 4 c.args.k c.in-4.is, cases)

pub returns-in-5 : goal.returns-in-5
unfolding stage_for
returns-in-5 c = search (key_is 5 c.args.k c.in-5.is, cases)

pub returns-in-6 : goal.returns-in-6
unfolding stage_for
returns-in-6 c = search (key_is 6 c.args.k c.in-6.is, cases)

pub returns-in-7 : goal.returns-in-7
unfolding stage_for
returns-in-7 c = search (key_is 7 c.args.k c.in-7.is, cases)

pub returns-in-8 : goal.returns-in-8
unfolding stage_for
returns-in-8 c = search (key_is 8 c.args.k c.in-8.is, cases)

pub returns-in-9 : goal.returns-in-9
unfolding stage_for
returns-in-9 c = search (key_is 9 c.args.k c.in-9.is, cases)

pub returns-in-10 : goal.returns-in-10
unfolding stage_for
returns-in-10 c = search (key_is 10 c.args.k c.in-10.is, cases)

pub returns-in_default : goal.returns-in_default
unfolding stage_for
returns-in_default c =
    let k = c.args.k in
    let rest = c.in_default.in_default-own.rest in
    search (
      ne_eqb k 10 rest.1,
      ne_eqb k 9 rest.0.1,
      ne_eqb k 8 rest.0.0.1,
      ne_eqb k 7 rest.0.0.0.1,
      ne_eqb k 6 rest.0.0.0.0.1,
      ne_eqb k 5 rest.0.0.0.0.0.1,
      ne_eqb k 4 rest.0.0.0.0.0.0.1,
      ne_eqb k 3 rest.0.0.0.0.0.0.0.1,
      ne_eqb k 2 rest.0.0.0.0.0.0.0.0.1,
      ne_eqb k 1 rest.0.0.0.0.0.0.0.0.0.1,
      cases,
    )
