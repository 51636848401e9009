-- Document 01, Jobs: what a job begins with, and what the lines of its table are written with.
use Rattle.std.specs.Prelude.{List, [], ◌∷◌, ◌++◌, ℕ, ◌+◌, ◌%◌}
use Rattle.address.specs.declared.number.Direction.TheVariants.{Write, Read}
use Rattle.address.specs.declared.number.Direction.{Direction}
use Rattle.answer.specs.declared.ending.Ending.{Ending}
use Rattle.service.specs.Act.{Act, writes, reads_count, goes_on, awaits, ends, Work}
use Rattle.service.specs.declared.job.Job.{Job}

-- "sets I2CCOUNT to n (read: 128 + n)": LB, and n in the seven bits of BC
unfoldable pub count_of : Direction → ℕ → ℕ
count_of Write n = n
count_of Read n = 128 + n % 128

-- "The driver sets I2CCOUNT .., writes I2CCON 60h": register 2 with the pointer at 00h, then register 3. "It leaves the pointer at 00h"
abbrev pub begins : Job → List Act
begins job = writes 0 0x00 ∷ writes 2 (count_of job.direction job.n) ∷ writes 3 0x60 ∷ []

-- the moved count, "found at 30h": register 2 with the pointer at 07h, which then goes back to 00h
abbrev pub finds_moved : List Act
finds_moved = writes 0 0x07 ∷ reads_count ∷ writes 0 0x00 ∷ []

-- these acts, and the job goes on
abbrev pub go_on_after : List Act → Work
go_on_after acts = record { acts = acts; after = goes_on }

-- these acts, then "at the end (20h, 28h, 30h, 48h, 58h) writes 50h, and waits for own STOP", which will give this answer
abbrev pub stop_after : List Act → Ending → Work
stop_after acts ending = record { acts = acts ++ (writes 3 0x50 ∷ []); after = awaits ending }

-- these acts, and the job ends at once with this answer and count 0
abbrev pub end_after : List Act → Ending → Work
end_after acts ending = record { acts = acts; after = ends ending }
