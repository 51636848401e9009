-- `is_bad_argument` is `bad_argument`: what is known at each return settles the tests of the definition.
use borrow.Author.Tests.{ne_eqb}
use Rattle.controller.specs.Event.{bad_argument}
use Rattle.notation.proofs.Among.{key_is}
use Rattle.notation.proofs.Cases.{cases}
use Rattle.controller.proofs.event.is_bad_argument.Goals as goal

pub returns-in-5 : goal.returns-in-5
unfolding bad_argument
returns-in-5 c = search (key_is 5 c.args.number c.in-5.is, cases)

pub returns-in-7 : goal.returns-in-7
unfolding bad_argument
returns-in-7 c = search (key_is 7 c.args.number c.in-7.is, cases)

pub returns-in-8 : goal.returns-in-8
unfolding bad_argument
returns-in-8 c = search (key_is 8 c.args.number c.in-8.is, cases)

pub returns-in-6 : goal.returns-in-6
unfolding bad_argument
returns-in-6 c = search (key_is 6 c.args.number c.in-6.is, cases)

pub returns-in_default : goal.returns-in_default
unfolding bad_argument
returns-in_default c =
    let number = c.args.number in
    let rest = c.in_default.in_default-own.rest in
    search (ne_eqb number 6 rest.1, ne_eqb number 8 rest.0.1, ne_eqb number 7 rest.0.0.1, ne_eqb number 5 rest.0.0.0.1, cases)
