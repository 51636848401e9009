-- `from` is `names`: what is known at each return settles the tests of the definition.
use borrow.Author.Tests.{ne_eqb}
use Rattle.notation.proofs.Among.{key_is}
use Rattle.notation.proofs.Cases.{cases}
use Rattle.responses.specs.Entry.{names}
use Rattle.responses.proofs.entry.EntryFromU8.from.Goals as goal

pub returns-in-1 : goal.returns-in-1
unfolding names
returns-in-1 c = search (key_is 1 c.args.number c.in-1.is, cases)

pub returns-in-2 : goal.returns-in-2
unfolding names
returns-in-2 c = search (key_is 2 c.args.number c.in-2.is, cases)

pub returns-in-3 : goal.returns-in-3
unfolding names
returns-in-3 c = search (key_is 3 c.args.number c.in-3.is, cases)

pub returns-in-4 : goal.returns-in-4
unfolding names
returns-in-4 c = search (key_is 4 c.args.number c.in-4.is, cases)

pub returns-in-5 : goal.returns-in-5
unfolding names
returns-in-5 c = search (key_is 5 c.args.number c.in-5.is, cases)

pub returns-in-6 : goal.returns-in-6
unfolding names
returns-in-6 c = search (key_is 6 c.args.number c.in-6.is, cases)

pub returns-in-7 : goal.returns-in-7
unfolding names
returns-in-7 c = search (key_is 7 c.args.number c.in-7.is, cases)

pub returns-in-8 : goal.returns-in-8
unfolding names
returns-in-8 c = search (key_is 8 c.args.number c.in-8.is, cases)

pub returns-in-9 : goal.returns-in-9
unfolding names
returns-in-9 c = search (key_is 9 c.args.number c.in-9.is, cases)

pub returns-in-10 : goal.returns-in-10
unfolding names
returns-in-10 c = search (key_is 10 c.args.number c.in-10.is, cases)

pub returns-in-11 : goal.returns-in-11
unfolding names
returns-in-11 c = search (key_is 11 c.args.number c.in-11.is, cases)

pub returns-in-12 : goal.returns-in-12
unfolding names
returns-in-12 c = search (key_is 12 c.args.number c.in-12.is, cases)

pub returns-in-13 : goal.returns-in-13
unfolding names
returns-in-13 c = search (key_is 13 c.args.number c.in-13.is, cases)

pub returns-in_default : goal.returns-in_default
unfolding names
returns-in_default c =
    let number = c.args.number in
    let rest = c.in_default.in_default-own.rest in
    search (
      ne_eqb number 13 rest.1,
      ne_eqb number 12 rest.0.1,
      ne_eqb number 11 rest.0.0.1,
      ne_eqb number 10 rest.0.0.0.1,
      ne_eqb number 9 rest.0.0.0.0.1,
      ne_eqb number 8 rest.0.0.0.0.0.1,
      ne_eqb number 7 rest.0.0.0.0.0.0.1,
      ne_eqb number 6 rest.0.0.0.0.0.0.0.1,
      ne_eqb number 5 rest.0.0.0.0.0.0.0.0.1,
      ne_eqb number 4 rest.0.0.0.0.0.0.0.0.0.1,
      ne_eqb number 3 rest.0.0.0.0.0.0.0.0.0.0.1,
      ne_eqb number 2 rest.0.0.0.0.0.0.0.0.0.0.0.1,
      ne_eqb number 1 rest.0.0.0.0.0.0.0.0.0.0.0.0.1,
      cases,
    )
