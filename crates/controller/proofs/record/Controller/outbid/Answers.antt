-- `outbid` is `outbid`: what is known at each return settles the tests of the definition.
use mathlib.Core.Path.{◌≡◌, ◌∙◌}
use Rattle.address.specs.declared.number.Direction.TheVariants.{Write, Read}
use Rattle.controller.specs.Condition.{outbid}
use Rattle.controller.proofs.record.Controller.outbid.Goals as goal

pub returns-in-General : goal.returns-in-General
unfolding outbid
returns-in-General c = c.give.ensures ∙ rw c.in-General.is

pub returns-in-Own-Write : goal.returns-in-Own-Write
unfolding outbid
returns-in-Own-Write c =
    let e : c.in-Own-Write.field-0 ≡ Write = rw c.in-Own-Write.is at c.in-Own-Write.field-0-is in
    c.give-in-Own-Write.ensures ∙ rw c.in-Own-Write.is (rw e)

pub returns-in-Own-Read : goal.returns-in-Own-Read
unfolding outbid
returns-in-Own-Read c =
    let e : c.in-Own-Read.field-0 ≡ Read = rw c.in-Own-Read.is at c.in-Own-Read.field-0-is in
    c.give-in-Own-Read.ensures ∙ rw c.in-Own-Read.is (rw e)

pub returns-in-Nothing : goal.returns-in-Nothing
unfolding outbid
returns-in-Nothing c = c.give-in-Nothing.ensures ∙ rw c.in-Nothing.is
