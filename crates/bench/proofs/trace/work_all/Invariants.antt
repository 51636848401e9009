use Rattle.std.proofs.Common.{◌≤◌, length}
use Rattle.bench.proofs.trace.work_all.Given as goal

abbrev pub invariant-loop-group : goal.invariant-loop-group
invariant-loop-group g l = length l.rest ≤ length l.initial.rest

abbrev pub decreases-loop-group : goal.decreases-loop-group
decreases-loop-group g l = length l.rest
