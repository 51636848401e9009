-- What the port does next, by what it last asked for and the value that was read (0 where nothing was).
use Rattle.std.specs.Prelude.{false, not, List, ℕ, ◌+◌, eqb, ltb, length, Option, None, Some}
use Rattle.answer.specs.Ending.{number_of}
use Rattle.control.specs.Flags.{flags_of}
use Rattle.notation.specs.Choice.{when◌then◌else◌, ◌and◌, among}
use Rattle.port.specs.Ask.{ask_for}
use Rattle.port.specs.InHand.{accesses, notes, line, in_hand, access, place_of, count_after}
use Rattle.port.specs.Look.{interrupt_in, idle_control, still_control, meets}
use Rattle.port.specs.Stage.{working, stage_number}
use Rattle.port.specs.Stand.{stand, at_stage, with_count, advanced, at_first, at_work, awaiting, ended}
use Rattle.port.specs.declared.ask.Ask.TheVariants as ask
use Rattle.port.specs.declared.ask.Ask.{Ask}
use Rattle.port.specs.declared.stage.Stage.TheVariants.{Over, Control, Status, First, Waiting, Look, Interrupted, Working, Recovering, Pausing, Recheck}
use Rattle.port.specs.declared.stage.Stage.{Stage}
use Rattle.port.specs.declared.stand.Stand.{Stand}
use Rattle.service.specs.Act.{Then, goes_on, awaits, ends, finishes, Work}
use Rattle.service.specs.JobTable.{job_table}

-- what follows on the accesses of a line: the job goes on, own STOP is due, or it is over (document 01, Jobs)
unfoldable pub concludes : Then → Stand → Stand
concludes goes_on s = at_stage s Waiting
concludes (awaits ending) s = awaiting s Waiting (number_of ending)
concludes (ends ending) s = ended s (number_of ending) 0
concludes finishes s = ended s s.answer s.count

-- The work at a status begins: its first access is asked for, or where it has none what follows.
unfoldable pub enters : Stand → ℕ → Work → Stand
enters s status work =
    let t = at_work s Working status (notes s.count work.acts) in
    when eqb (length (accesses s.count work.acts)) 0 then concludes work.after t else t

-- one of the accesses in hand is made: the next one, or after the last what follows
unfoldable pub onward : Stand → List ℕ → Stand → Stand
onward s payload after = when ltb (s.made + 1) (length (in_hand s payload)) then advanced s else after

-- The next access of a line. Where the bytes of a read are read back and 50h alone is left, I2CCON is looked at once more before it: a reset amid the reads
-- would have given other bytes.
unfoldable pub next_of : Stand → ℕ → Stand
next_of s total = when eqb s.status 0x58 and eqb (s.made + 2) total then at_stage (advanced s) Recheck else advanced s

-- After a wait, by I2CCON: ENSIO 0 is a reset, 29; at SI 1 I2CSTA is asked for; SI 0 and STO 0 where own STOP is due is own STOP; else it waits on.
unfoldable pub looked : Stand → ℕ → Stand
looked s value =
    when not (flags_of value).ensio then ended s 29 0
    else when interrupt_in value then at_stage s Interrupted
    else when s.due and not (flags_of value).sto then ended s s.answer s.count
    else at_stage s Waiting

-- where it stands once the value is heard
unfoldable pub hears_at : Stage → Stand → List ℕ → ℕ → Stand
hears_at Over s payload value = s
-- before the first write I2CCON and I2CSTA are read; a chip that is not ready for a job is 22, and no write was made
hears_at Control s payload value = when idle_control value then at_stage s Status else ended s 22 0
hears_at Status s payload value = when eqb value 0xF8 then at_first s First else ended s 22 0
hears_at First s payload value = onward s payload (at_stage s Waiting)
hears_at Waiting s payload value = at_stage s Look
hears_at Look s payload value = looked s value
hears_at Interrupted s payload value =
    when among value (meets s.job.direction) then enters s value (job_table s.job payload value s.count) else at_stage s Waiting
hears_at Working s payload value =
    let t = with_count s (count_after (access s payload) s.count value) in
    when ltb (s.made + 1) (length (in_hand s payload)) then next_of t (length (in_hand s payload)) else concludes (line s payload).after t
hears_at Recovering s payload value = onward s payload (at_stage s Pausing)
-- the chip is brought back
hears_at Pausing s payload value = stand Over s.job s.status s.made false 0 0 false
-- the bytes read back count only if nothing has happened to the chip meanwhile
hears_at Recheck s payload value = when still_control value then at_stage s Working else ended s 29 0

unfoldable pub hears : Stand → List ℕ → ℕ → Stand
hears s payload value = hears_at s.stage s payload value

-- the place at which the value is noted; 68 is none
unfoldable pub noted_at : Stand → List ℕ → ℕ
noted_at s payload = when eqb (stage_number s.stage) working then place_of (access s payload) else 68

-- a place as this number
abbrev pub place_number : Option ℕ → ℕ
place_number None = 68
place_number (Some place) = place

-- what is asked for at a stage
unfoldable pub asks_at : Stage → Stand → List ℕ → Ask
asks_at Over s payload = ask.Over s.answer s.count
asks_at Control s payload = ask.Read 3
asks_at Status s payload = ask.Read 0
asks_at First s payload = ask_for (access s payload)
asks_at Waiting s payload = ask.Wait
asks_at Look s payload = ask.Read 3
asks_at Interrupted s payload = ask.Read 0
asks_at Working s payload = ask_for (access s payload)
asks_at Recovering s payload = ask_for (access s payload)
asks_at Pausing s payload = ask.Pause
asks_at Recheck s payload = ask.Read 3

unfoldable pub asks : Stand → List ℕ → Ask
asks s payload = asks_at s.stage s payload

-- What is asked for first, after a start, a recovery or a give-up: then it is what `asks` says (proofs/Begun.antt). Plumbing.
unfoldable pub first_ask : Stand → Ask
first_ask s =
    when eqb (stage_number s.stage) 1 then ask.Read 3
    else when eqb (stage_number s.stage) 8 then ask.Write 0 0x05
    else ask.Over s.answer s.count
