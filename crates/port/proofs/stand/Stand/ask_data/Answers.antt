-- `ask_data` asks for one of the data, or for the write after them.
use mathlib.Core.List.{map}
use mathlib.Core.Path.{ap, sym}
use borrow.Author.Tests.{ltb-false}
use native.Mathlib.Omega.{arith}
use lib.ListN.{take, length-map}
use Rattle.port.proofs.Nth.{at_byte}
use Rattle.port.proofs.Totals.{nth_last}
use Rattle.port.specs.Ask.{ask_for}
use Rattle.service.specs.Act.{writes}
use Rattle.port.proofs.stand.Stand.ask_data.Goals as goal

pub returns-in-Some : goal.returns-in-Some
unfolding ask_for
returns-in-Some c =
    let found = rw (c.bytes.ensures, c.from.ensures) at c.in-Some.ensures.lookup.3 in
    rw (found.1 0) (sym (ap ask_for (at_byte _ (writes 3 0x41) c.args.self.made found.0)))

pub returns-in-None : goal.returns-in-None
unfolding ask_for
returns-in-None c =
    let args = c.args in
    let xs = take args.self.job.n args.payload.now in
    let past = rw (c.bytes.ensures, c.from.ensures) at (ltb-false _ _ (sym c.in-None.ensures.lookup.0)) in
    sym (ap ask_for (nth_last (map (writes 1) xs) (writes 3 0x41) args.self.made (omega (arith, length-map xs (writes 1)))))
