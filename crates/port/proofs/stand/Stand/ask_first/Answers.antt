-- `ask_first` asks for one of the three writes that a job begins with: the first two by computation, and else the last.
use mathlib.Core.List.{[], ◌∷◌}
use mathlib.Core.Path.{ap, sym}
use native.Mathlib.Omega.{arith}
use Rattle.port.proofs.Totals.{nth_last}
use Rattle.port.specs.Ask.{ask_for}
use Rattle.port.specs.InHand.{nth}
use Rattle.service.specs.Act.{writes}
use Rattle.service.specs.JobSteps.{count_of}
use Rattle.port.proofs.stand.Stand.ask_first.Goals as goal

pub returns-in-0 : goal.returns-in-0
unfolding nth ask_for
returns-in-0 c = rw c.in-0.is

pub returns-in-1 : goal.returns-in-1
unfolding nth ask_for
returns-in-1 c = rw (c.in-1.is, c.count_of.ensures)

pub returns-in_default : goal.returns-in_default
unfolding ask_for
returns-in_default c =
    let s = c.args.self in
    sym (ap ask_for (nth_last (writes 0 0x00 ∷ writes 2 (count_of s.job.direction s.job.n) ∷ []) (writes 3 0x60) s.made (omega arith)))
