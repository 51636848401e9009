-- `ask_address` asks for one of the two writes of the line at 08h: the first by computation, and else the last.
use mathlib.Core.List.{[], ◌∷◌}
use mathlib.Core.Path.{ap, sym}
use borrow.Author.Tests.{eqb-true, eqb-false}
use native.Mathlib.Omega.{arith}
use Rattle.address.specs.Number.{byte_of}
use Rattle.port.proofs.Totals.{nth_last}
use Rattle.port.specs.Ask.{ask_for}
use Rattle.port.specs.InHand.{nth}
use Rattle.service.specs.Act.{writes}
use Rattle.port.proofs.stand.Stand.ask_address.Goals as goal

pub returns-then-first : goal.returns-then-first
unfolding nth ask_for
returns-then-first c = rw (eqb-true c.args.self.made 0 c.if-first.true-raw, c.byte.ensures)

pub returns-else-first : goal.returns-else-first
unfolding ask_for
returns-else-first c =
    let s = c.args.self in
    sym (ap ask_for (nth_last (writes 1 (byte_of s.job.address s.job.direction).0 ∷ []) (writes 3 0x40) s.made (omega (arith, eqb-false))))
