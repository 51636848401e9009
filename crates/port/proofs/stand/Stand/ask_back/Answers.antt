-- `ask_back` asks for one of the reads of I2CDAT, or for the write after them.
use mathlib.Core.Path.{ap, sym, ◌∙◌}
use native.Mathlib.Omega.{arith}
use Rattle.port.proofs.Totals.{nth-before, nth_last, length-reads, read_at}
use Rattle.port.specs.Ask.{ask_for}
use Rattle.port.specs.InHand.{reads_from}
use Rattle.service.specs.Act.{writes, reads_count, read_times}
use Rattle.port.proofs.stand.Stand.ask_back.Goals as goal

pub returns-then-self-reads : goal.returns-then-self-reads
unfolding ask_for
returns-then-self-reads c =
    let s = c.args.self in
    let all = read_times s.job.n in
    sym (ap ask_for (nth-before (reads_from all 0) (writes 3 0x50) reads_count s.made (omega (arith, length-reads all 0))
    ∙ read_at all 0 s.made reads_count (omega arith)))

pub returns-else-self-reads : goal.returns-else-self-reads
unfolding ask_for
returns-else-self-reads c =
    let s = c.args.self in
    let all = read_times s.job.n in
    sym (ap ask_for (nth_last (reads_from all 0) (writes 3 0x50) s.made (omega (arith, length-reads all 0))))
