-- `serve` is its definition: register 0 of a sound record reads its status.
use native.Mathlib.Omega.{arith}
use Rattle.std.proofs.lemmas.Grind.{common_steps}
use Rattle.laws.proofs.Status.{status-reads}
use Rattle.notation.specs.Choice.{when◌then◌else◌}
use Rattle.service.specs.Act.{reads, follows}
use Rattle.service.specs.Serve.{serve}
use Rattle.driver.proofs.pairs.serve.Goals as goal

pub returns-in-14 : goal.returns-in-14
unfolding serve when◌then◌else◌
returns-in-14 c = rw (c.end.ensures, c.in-14.is)

pub returns-in-4 : goal.returns-in-4
unfolding serve follows when◌then◌else◌
returns-in-4 c = rw c.in-4.is

pub returns-then-not-idle : goal.returns-then-not-idle
unfolding serve reads when◌then◌else◌
returns-then-not-idle c = grind (arith, common_steps, status-reads c.args.p.now.controller c.requires)

pub returns-else-not-idle : goal.returns-else-not-idle
unfolding serve reads when◌then◌else◌
returns-else-not-idle c = grind (arith, common_steps, status-reads c.args.p.now.controller c.requires)
