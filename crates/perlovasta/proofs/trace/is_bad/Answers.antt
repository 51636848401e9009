-- `is_bad` is `bad_trace`.
use borrow.Author.Rules.{rules}
use Rattle.perlovasta.proofs.LogGroups.{bad_cut, bad_known}
use Rattle.perlovasta.proofs.trace.is_bad.Goals as goal

pub returns-then-trace-ne0 : goal.returns-then-trace-ne0
returns-then-trace-ne0 c = rw (bad_cut c.args.trace.now c.if-trace-ne0.true) (search rules)

pub returns-else-trace-ne0 : goal.returns-else-trace-ne0
returns-else-trace-ne0 c = bad_known c.args.trace.now _ c.if-trace-ne0.false c.all_known.ensures.known c.all_known.ensures.strange
