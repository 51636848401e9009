-- Document 01, Jobs: the service of a job by any table of work.
use Rattle.std.specs.Prelude.{List, ℕ, eqb}
use Rattle.answer.specs.declared.ending.Ending.TheVariants.{Reset}
use Rattle.controller.specs.declared.record.Controller.{Controller}
use Rattle.notation.specs.Choice.{when◌then◌else◌}
use Rattle.service.specs.Act.{Act, ends, finishes, Work, reads, does_all, follows, performs}
use Rattle.service.specs.Progress.{starting}
use Rattle.service.specs.declared.progress.Progress.{Progress}

-- A table of work: what is done at a status, with this count noted so far.
abbrev pub Table : Type 0
Table = ℕ → ℕ → Work

-- the driver as a job begins: its first acts done
unfoldable pub starts : List Act → Controller → Progress
starts acts c = does_all acts (starting c)

-- "After each pair it does this work first": event 14 and own STOP end the job, at F8h the driver waits, else it goes by the table
unfoldable pub serve : Table → ℕ → Progress → Progress
serve table event p =
    when eqb event 14 then follows (ends Reset) p
    else when eqb event 4 then follows finishes p
    else when eqb (reads p.controller 0) 0xF8 then p
    else performs (table (reads p.controller 0) p.count) p
