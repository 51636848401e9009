-- `store` is `stored`: what is known at each return settles the tests of the definition.
use borrow.Author.Tests.{ne_eqb}
use Rattle.controller.specs.Registers.{stored}
use Rattle.notation.proofs.Among.{key_is}
use Rattle.notation.proofs.Cases.{cases}
use Rattle.controller.proofs.record.Registers.store.Goals as goal

pub returns-in-0 : goal.returns-in-0
unfolding stored
returns-in-0 c = search (key_is 0 c.args.pointer c.in-0.is, cases)

pub returns-in-1 : goal.returns-in-1
unfolding stored
returns-in-1 c = search (key_is 1 c.args.pointer c.in-1.is, cases)

pub returns-in-2 : goal.returns-in-2
unfolding stored
returns-in-2 c = search (key_is 2 c.args.pointer c.in-2.is, cases)

pub returns-in-3 : goal.returns-in-3
unfolding stored
returns-in-3 c = search (key_is 3 c.args.pointer c.in-3.is, cases)

pub returns-in-4 : goal.returns-in-4
unfolding stored
returns-in-4 c = search (key_is 4 c.args.pointer c.in-4.is, cases)

pub returns-in_default : goal.returns-in_default
unfolding stored
returns-in_default c =
    let pointer = c.args.pointer in
    let rest = c.in_default.in_default-own.rest in
    search (
      ne_eqb pointer 4 rest.1,
      ne_eqb pointer 3 rest.0.1,
      ne_eqb pointer 2 rest.0.0.1,
      ne_eqb pointer 1 rest.0.0.0.1,
      ne_eqb pointer 0 rest.0.0.0.0.1,
      cases,
    )
