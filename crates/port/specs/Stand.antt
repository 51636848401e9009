-- Where a job stands, with one item changed. Plumbing, as crates/controller/specs/Setters.antt.
use Rattle.std.specs.Prelude.{Bool, true, false, ℕ, ◌+◌}
use Rattle.address.specs.declared.number.Direction.TheVariants.{Write}
use Rattle.port.specs.declared.stage.Stage.TheVariants.{Over}
use Rattle.port.specs.declared.stage.Stage.{Stage}
use Rattle.port.specs.declared.stand.Stand.{Stand}
use Rattle.service.specs.declared.job.Job.{Job}

abbrev pub stand : Stage → Job → ℕ → ℕ → Bool → ℕ → ℕ → Bool → Stand
stand stage job status made due answer count stale =
    record { stage = stage; job = job; status = status; made = made; due = due; answer = answer; count = count; stale = stale }

abbrev pub at_stage : Stand → Stage → Stand
at_stage s x = stand x s.job s.status s.made s.due s.answer s.count s.stale

abbrev pub with_count : Stand → ℕ → Stand
with_count s x = stand s.stage s.job s.status s.made s.due s.answer x s.stale

-- one access more is made
abbrev pub advanced : Stand → Stand
advanced s = stand s.stage s.job s.status (s.made + 1) s.due s.answer s.count s.stale

-- at the first of some accesses
abbrev pub at_first : Stand → Stage → Stand
at_first s x = stand x s.job s.status 0 s.due s.answer s.count s.stale

-- at the first access of the work at a status, with this count noted; what was due is not any more
abbrev pub at_work : Stand → Stage → ℕ → ℕ → Stand
at_work s x status count = stand x s.job status 0 false s.answer count s.stale

-- own STOP is due, and will give this answer with the count noted
abbrev pub awaiting : Stand → Stage → ℕ → Stand
awaiting s x answer = stand x s.job s.status s.made true answer s.count s.stale

-- it is over, with this answer and count
abbrev pub ended : Stand → ℕ → ℕ → Stand
ended s answer count = stand Over s.job s.status s.made false answer count s.stale

-- no job, as it stands in a state that is new, in one that was broken off, and in a recovery (n bytes of settings)
abbrev pub no_job : ℕ → Job
no_job n = record { direction = Write; address = record { 0 = 0 }; n = n }

-- nothing is under way: an answer with count 0, and whether the chip has to be brought back
abbrev pub broken_off : ℕ → Bool → Stand
broken_off answer stale = stand Over (no_job 0) 0 0 false answer 0 stale

-- A state that is new: over with answer 22, and the chip has to be brought back before the first job.
abbrev pub new : Stand
new = broken_off 22 true
