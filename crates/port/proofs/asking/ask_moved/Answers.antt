-- `ask_moved` asks for one of the four accesses of the line at 30h: the first three by computation, and else the last.
use mathlib.Core.Path.{ap, sym}
use native.Mathlib.Omega.{arith}
use Rattle.port.proofs.Totals.{nth_last}
use Rattle.port.specs.Ask.{ask_for}
use Rattle.port.specs.InHand.{nth}
use Rattle.service.specs.Act.{writes}
use Rattle.service.specs.JobSteps.{finds_moved}
use Rattle.port.proofs.asking.ask_moved.Goals as goal

pub returns-in-0 : goal.returns-in-0
unfolding nth ask_for
returns-in-0 c = rw c.in-0.is

pub returns-in-1 : goal.returns-in-1
unfolding nth ask_for
returns-in-1 c = rw c.in-1.is

pub returns-in-2 : goal.returns-in-2
unfolding nth ask_for
returns-in-2 c = rw c.in-2.is

pub returns-in_default : goal.returns-in_default
unfolding ask_for
returns-in_default c = sym (ap ask_for (nth_last finds_moved (writes 3 0x50) c.args.made (omega arith)))
