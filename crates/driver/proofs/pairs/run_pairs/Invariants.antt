use Prim.Native.Nat.{◌≤◌, ◌+◌}
use lib.ListN.{length}
use Rattle.driver.specs.Run.{run}
use Rattle.service.specs.JobTable.{job_table}
use Rattle.driver.proofs.Script.{Leads}
use Rattle.driver.proofs.pairs.run_pairs.Given as goal

abbrev pub invariant-loop-left : goal.invariant-loop-left
invariant-loop-left l =
    let table = job_table l.job l.payload in
    record {
      events : l.p.events + length l.left ≤ length l.script;
      sent : l.sent + length l.left ≤ length l.script;
      leads : Leads (run table l.p l.left) (run table l.initial.p l.script) l.sent l.out l.initial.out;
    }

abbrev pub decreases-loop-left : goal.decreases-loop-left
decreases-loop-left l = length l.left
