-- Document 01, Jobs: each of the twelve statuses of `job_statuses` (crates/runs) is met by some job. That no job meets another is `OnlyListedStatuses` there.
use Rattle.std.specs.Prelude.{Bool, true, not, List, [], ◌∷◌, map, ◌≡◌, ℕ, length, replicate}
use Rattle.address.specs.declared.number.Direction.TheVariants.{Write, Read}
use Rattle.address.specs.declared.number.Direction.{Direction}
use Rattle.controller.specs.Access.{write_of}
use Rattle.controller.specs.Reset.{fresh}
use Rattle.controller.specs.declared.record.Controller.{Controller}
use Rattle.notation.specs.Choice.{◌and◌}
use Rattle.runs.specs.Accesses.{met, job_statuses}
use Rattle.service.specs.JobSteps.{begins}
use Rattle.service.specs.JobTable.{job_table}
use Rattle.service.specs.Request.{malformed, ready}
use Rattle.service.specs.Serve.{starts}
use Rattle.service.specs.declared.job.Job.{Job}

-- a job of one byte to or from 50h, on a fresh controller that is enabled by 40h
pub record Example : Type 0 where
  pub direction : Direction
  pub script : List ℕ

abbrev pub job_of_one : Direction → Job
job_of_one direction = record { direction = direction; address = record { 0 = 0x50 }; n = 1 }

abbrev pub enabled_controller : Controller
enabled_controller = (write_of fresh 3 0x40).next

-- it begins: it is not answered 21 (one byte of data, a destination of 1 and an out record of 69), nor 22
abbrev pub is_begun : Example → Bool
is_begun x = not (malformed (job_of_one x.direction) 1 1 69 (length x.script)) and ready enabled_controller

-- the statuses that it meets
abbrev pub meets : Example → List ℕ
meets x =
    let job = job_of_one x.direction in
    met (job_table job (0x11 ∷ [])) (starts (begins job) enabled_controller) x.script

-- the last of them, F8h where it meets none
unfoldable pub last_of : List ℕ → ℕ
last_of [] = 0xF8
last_of (x ∷ []) = x
last_of (x ∷ y ∷ ys) = last_of (y ∷ ys)

-- a write, and a read, with this script
abbrev sends : List ℕ → Example
sends script = record { direction = Write; script = script }

abbrev fetches : List ℕ → Example
fetches script = record { direction = Read; script = script }

-- One for each of 08h, 18h, 40h, 20h, 28h, 30h, 48h, 58h, 38h, 00h, 70h, 78h. Own START (1), a byte out acknowledged (6 0) or not (6 1), a byte in (7),
-- arbitration lost (9), an illegal place (10), SDA held (11), SCL low (12).
abbrev pub status_examples : List Example
status_examples =
    sends (1 ∷ 0 ∷ []) ∷
    sends (1 ∷ 0 ∷ 6 ∷ 0 ∷ []) ∷
    fetches (1 ∷ 0 ∷ 6 ∷ 0 ∷ []) ∷
    sends (1 ∷ 0 ∷ 6 ∷ 1 ∷ []) ∷
    sends (1 ∷ 0 ∷ 6 ∷ 0 ∷ 6 ∷ 0 ∷ []) ∷
    sends (1 ∷ 0 ∷ 6 ∷ 0 ∷ 6 ∷ 1 ∷ []) ∷
    fetches (1 ∷ 0 ∷ 6 ∷ 1 ∷ []) ∷
    fetches (1 ∷ 0 ∷ 6 ∷ 0 ∷ 7 ∷ 0x5C ∷ []) ∷
    sends (1 ∷ 0 ∷ 6 ∷ 0 ∷ 9 ∷ 0 ∷ []) ∷
    sends (1 ∷ 0 ∷ 10 ∷ 0 ∷ []) ∷
    sends (11 ∷ 0 ∷ []) ∷
    sends (12 ∷ 0 ∷ []) ∷ []

-- each of them begins, and the last statuses that they meet are those of `job_statuses`, in order
abbrev pub EachStatusMet : Type 0
EachStatusMet = (map is_begun status_examples ≡ replicate 12 true) × (map (λ (x : Example). last_of (meets x)) status_examples ≡ job_statuses)
