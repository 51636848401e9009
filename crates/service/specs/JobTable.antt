-- Document 01, Jobs: what the driver does at each status of a read or write job, whatever the count noted. Every status that a job can
-- meet has a line but F8h, at which the driver waits: AA is 0 in all that it writes, so there is no slave status; LB is 1 in a read, so
-- no 50h; it asks for no repeated START, so no 10h. (`OnlyListedStatuses`, crates/runs, says so of every job.)
--
-- "at 08h the address byte and 40h, then the data if any and 41h" (18h in a write, 40h in a read), "at 58h reads the n bytes, at the end
-- (20h, 28h, 30h, 48h, 58h) writes 50h, and waits for own STOP" (`stop_after`). "address NACKed (20h, 48h)"; "38h; the driver has written
-- 40h"; "00h, 70h, 78h; left so". "The count is n for 0, the moved count found at 30h for 24, else 0".
use Rattle.std.specs.Prelude.{List, [], ◌∷◌, ◌++◌, map, ℕ, eqb, take}
use Rattle.address.specs.Number.{byte_of}
use Rattle.answer.specs.declared.ending.Ending.TheVariants.{Done, AddressNacked, DataNacked, Lost, Fault}
use Rattle.control.specs.Turn.{faults}
use Rattle.notation.specs.Choice.{when◌then◌else◌, among}
use Rattle.service.specs.Act.{writes, reads_all, counts}
use Rattle.service.specs.JobSteps.{finds_moved, go_on_after, stop_after, end_after}
use Rattle.service.specs.Serve.{Table}
use Rattle.service.specs.declared.job.Job.{Job}

unfoldable pub job_table : Job → List ℕ → Table
job_table job payload status count =
    when eqb status 0x08 then go_on_after (writes 1 (byte_of job.address job.direction).0 ∷ writes 3 0x40 ∷ [])
    else when eqb status 0x18 then go_on_after (map (writes 1) (take job.n payload) ++ (writes 3 0x41 ∷ []))
    else when eqb status 0x40 then go_on_after (writes 3 0x41 ∷ [])
    else when among status (0x20 ∷ 0x48 ∷ []) then stop_after (counts 0 ∷ []) AddressNacked
    else when eqb status 0x28 then stop_after (counts job.n ∷ []) Done
    else when eqb status 0x30 then stop_after finds_moved DataNacked
    else when eqb status 0x58 then stop_after (counts job.n ∷ reads_all ∷ []) Done
    else when eqb status 0x38 then end_after (writes 3 0x40 ∷ []) Lost
    else when among status faults then end_after [] Fault
    else go_on_after []
