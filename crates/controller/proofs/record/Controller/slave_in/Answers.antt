-- `slave_in` is `slave_in`: what is known at each return settles the tests of the definition.
use mathlib.Core.Path.{◌∙◌}
use Rattle.controller.specs.Transfer.{slave_in}
use Rattle.controller.proofs.record.Controller.slave_in.Goals as goal

pub returns-in-Own : goal.returns-in-Own
unfolding slave_in
returns-in-Own c = c.data_in.ensures ∙ rw c.in-Own.is

pub returns-in-General : goal.returns-in-General
unfolding slave_in
returns-in-General c = c.data_in-in-General.ensures ∙ rw c.in-General.is
