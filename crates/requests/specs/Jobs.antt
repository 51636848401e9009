-- Document 01, Jobs, the program: the controller that a job runs on, and the job that three numbers ask for.
use Rattle.std.specs.Prelude.{ℕ, eqb}
use Rattle.address.specs.declared.number.Direction.TheVariants.{Write, Read}
use Rattle.address.specs.declared.number.Direction.{Direction}
use Rattle.controller.specs.Access.{write_of}
use Rattle.controller.specs.Reset.{fresh}
use Rattle.controller.specs.declared.record.Controller.{Controller}
use Rattle.service.specs.declared.job.Job.{Job}
use Rattle.notation.specs.Choice.{when◌then◌else◌}

-- "a fresh controller enabled by 40h"
abbrev pub fresh_enabled : Controller
fresh_enabled = (write_of fresh 3 0x40).next

-- "kind (0 write, 1 read)"
unfoldable pub direction_for : ℕ → Direction
direction_for kind = when eqb kind 0 then Write else Read

-- "data for a write": so many bytes go with a job
unfoldable pub data_length : Direction → ℕ → ℕ
data_length Write n = n
data_length Read n = 0

-- "kind .., address, n"
abbrev pub job_for : ℕ → ℕ → ℕ → Job
job_for kind address n = record { direction = direction_for kind; address = record { 0 = address }; n = n }
