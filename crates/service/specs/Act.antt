-- Document 01, Jobs: what a driver does to the controller, all of it by register accesses, and what it notes. The same for every table
-- of work; the tables are in other files.
use Rattle.std.specs.Prelude.{true, List, [], ◌∷◌, ℕ, zero, suc, ◌+◌, ltb, set}
use Rattle.answer.specs.declared.ending.Ending.{Ending}
use Rattle.controller.specs.Access.{read_of, write_of}
use Rattle.controller.specs.declared.record.Controller.{Controller}
use Rattle.notation.specs.Choice.{when◌then◌else◌}
use Rattle.service.specs.Progress.{with_record, with_over, with_ending, with_noted_count, with_fetched}
use Rattle.service.specs.declared.progress.Progress.{Progress}

-- one act
pub data Act : Type 0 where
  -- a register is written
  writes : (register value : ℕ) → Act
  -- I2CDAT is read, its byte noted at this place (no line of the job's table does; a chip without a buffer, document 02, will want it)
  reads_data : (at : ℕ) → Act
  -- I2CDAT is read as often as the count noted says, the bytes noted at place 0 and those after it
  reads_all : Act
  -- register 2 is read, and noted as the count
  reads_count : Act
  -- this count is noted
  counts : (count : ℕ) → Act

-- what follows on some acts
pub data Then : Type 0 where
  -- the job goes on
  goes_on : Then
  -- the job goes on; own STOP will give this answer, with the count noted
  awaits : (ending : Ending) → Then
  -- the job ends at once, with this answer and count 0
  ends : (ending : Ending) → Then
  -- the job ends at once, with the answer and the count noted
  finishes : Then

pub record Work : Type 0 where
  pub acts : List Act
  pub after : Then

-- the record after a register write
unfoldable pub put : Controller → ℕ → ℕ → Controller
put c register value = (write_of c register value).next

-- what a register reads. (A read of register 0 changes nothing, so the record before it is kept.)
unfoldable pub reads : Controller → ℕ → ℕ
reads c register = (read_of c register).value

-- one byte read from I2CDAT, noted at place i
unfoldable pub fetch_one : ℕ → Progress → Progress
fetch_one i p = with_fetched (with_record p (read_of p.controller 1).next) (set p.fetched i (reads p.controller 1))

-- so many bytes read from I2CDAT, noted at place i and those after it
unfoldable pub fetch : ℕ → ℕ → Progress → Progress
fetch zero i p = p
fetch (suc more) i p = fetch more (i + 1) (fetch_one i p)

-- there are 68 places to note bytes at, so I2CDAT is read 68 times at most
unfoldable pub read_times : ℕ → ℕ
read_times count = when ltb 68 count then 68 else count

unfoldable pub does : Act → Progress → Progress
does (writes register value) p = with_record p (put p.controller register value)
does (reads_data at) p = fetch_one at p
does reads_all p = fetch (read_times p.count) 0 p
does reads_count p = with_noted_count (with_record p (read_of p.controller 2).next) (reads p.controller 2)
does (counts count) p = with_noted_count p count

-- one after the other
unfoldable pub does_all : List Act → Progress → Progress
does_all [] p = p
does_all (x ∷ xs) p = does_all xs (does x p)

unfoldable pub follows : Then → Progress → Progress
follows goes_on p = p
follows (awaits ending) p = with_ending p ending
follows (ends ending) p = with_over (with_ending (with_noted_count p 0) ending) true
follows finishes p = with_over p true

unfoldable pub performs : Work → Progress → Progress
performs w p = follows w.after (does_all w.acts p)
