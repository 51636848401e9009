-- `work_at` does the work of its table: the arm of one number computes, and what the other arms know settles the tests of the table.
use mathlib.Core.List.{[], ◌∷◌}
use mathlib.Core.Path.{sym}
use native.Mathlib.Omega.{arith}
use Rattle.std.proofs.lemmas.Grind.{common_steps}
use lib.ListN.{take}
use Rattle.std.proofs.lemmas.List.{take_min}
use Rattle.notation.specs.Choice.{when◌then◌else◌, among}
use Rattle.service.proofs.Blocks.{load_block}
use Rattle.service.specs.Act.{writes, does, does_all, follows, performs}
use Rattle.service.specs.JobTable.{job_table}
use Rattle.service.proofs.progress.Progress.work_at.Goals as goal

pub returns-in-8 : goal.returns-in-8
unfolding job_table among when◌then◌else◌ performs does_all does follows
returns-in-8 c = rw (c.write-in-8.ensures, c.write.ensures, c.byte.ensures, c.in-8.is)

pub returns-in-24 : goal.returns-in-24
unfolding job_table among when◌then◌else◌ performs does_all does follows
returns-in-24 c =
    let args = c.args in
    rw (c.write-in-24.ensures, c.write_block.ensures, c.min-n.ensures, take_min, c.in-24.is)
    (sym (load_block (take args.job.n args.payload.now) (writes 3 0x41 ∷ []) args.self.now))

pub returns-in-64 : goal.returns-in-64
unfolding job_table among when◌then◌else◌ performs does_all does follows
returns-in-64 c = rw (c.write-in-64.ensures, c.in-64.is)

pub returns-in-32 : goal.returns-in-32
unfolding job_table among when◌then◌else◌ performs does_all does follows
returns-in-32 c = grind (arith, common_steps)

pub returns-in-40 : goal.returns-in-40
unfolding job_table among when◌then◌else◌ performs does_all does follows
returns-in-40 c = rw (c.stop-in-40.ensures, c.in-40.is)

pub returns-in-48 : goal.returns-in-48
unfolding job_table among when◌then◌else◌ performs does_all does follows
returns-in-48 c = rw (c.stop-in-48.ensures, c.find_moved.ensures, c.in-48.is)

pub returns-in-88 : goal.returns-in-88
unfolding job_table among when◌then◌else◌ performs does_all does follows
returns-in-88 c = rw (c.stop-in-88.ensures, c.read_all.ensures, c.in-88.is)

pub returns-in-56 : goal.returns-in-56
unfolding job_table among when◌then◌else◌ performs does_all does follows
returns-in-56 c = rw (c.end.ensures, c.write-in-56.ensures, c.in-56.is)

pub returns-in-0 : goal.returns-in-0
unfolding job_table among when◌then◌else◌ performs does_all does follows
returns-in-0 c = grind (arith, common_steps)

pub returns-in_default : goal.returns-in_default
unfolding job_table among when◌then◌else◌ performs does_all follows
returns-in_default c = grind (arith, common_steps)
