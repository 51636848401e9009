-- Document 01, Jobs, of a job that begins (not answered 21 or 22), whatever its script: every register access that the driver makes is accepted; and it
-- meets no status but the twelve at which `job_table` (crates/service) has something to do. The proofs are in proofs/Accepted.antt; that each of the twelve is
-- met by some job is shown in crates/cases (specs/Statuses.antt).
use Rattle.std.specs.Prelude.{true, false, List, [], ◌∷◌, ◌++◌, ◌≡◌, ℕ, zero, suc, eqb, length}
use Rattle.controller.specs.Access.{read_of, write_of}
use Rattle.controller.specs.Event.{event_of}
use Rattle.controller.specs.declared.record.Controller.{Controller}
use Rattle.driver.specs.Run.{taking}
use Rattle.notation.specs.Choice.{when◌then◌else◌, among}
use Rattle.service.specs.Act.{Act, writes, reads_data, reads_all, reads_count, counts, reads, read_times, does}
use Rattle.service.specs.JobSteps.{begins}
use Rattle.service.specs.JobTable.{job_table}
use Rattle.service.specs.Progress.{starting}
use Rattle.service.specs.Request.{malformed, ready}
use Rattle.service.specs.Serve.{Table, starts, serve}
use Rattle.service.specs.declared.job.Job.{Job}
use Rattle.service.specs.declared.progress.Progress.{Progress}

-- so many reads of I2CDAT, one after the other, each accepted (refusal number 0)
abbrev pub ReadsAccepted : ℕ → Controller → Type 0
ReadsAccepted zero c = Unit {0}
ReadsAccepted (suc more) c = ((read_of c 1).refused ≡ 0) × ReadsAccepted more (read_of c 1).next

-- the accesses of one act are accepted; what is only noted makes none
abbrev pub ActAccepted : Act → Progress → Type 0
ActAccepted (writes register value) p = (write_of p.controller register value).refused ≡ 0
ActAccepted (reads_data at) p = (read_of p.controller 1).refused ≡ 0
ActAccepted reads_all p = ReadsAccepted (read_times p.count) p.controller
ActAccepted reads_count p = (read_of p.controller 2).refused ≡ 0
ActAccepted (counts count) p = Unit {0}

-- those of one act after the other
abbrev pub AllAccepted : List Act → Progress → Type 0
AllAccepted [] p = Unit {0}
AllAccepted (x ∷ xs) p = ActAccepted x p × AllAccepted xs (does x p)

-- event 14 and own STOP end the job, and the driver looks at no register after them
abbrev pub last_events : List ℕ
last_events = 14 ∷ 4 ∷ []

-- After any other accepted pair the driver reads register 0, and at a status that is not F8h does the acts of its table's line.
pub record ServedByAccepted (table : Table) (p : Progress) : Type 0 where
  pub status_read : (read_of p.controller 0).refused ≡ 0
  pub acts : eqb (reads p.controller 0) 0xF8 ≡ false → AllAccepted (table (reads p.controller 0) p.count).acts p

-- and so after every pair of a script, as long as the job lasts
abbrev pub EveryPair : Table → Progress → List ℕ → Type 0
EveryPair table p [] = Unit {0}
EveryPair table p (event ∷ []) = Unit {0}
EveryPair table p (event ∷ argument ∷ rest) =
    let o = event_of p.controller event argument in
    let q = serve table event (taking p o.next) in
    eqb o.refused 0 ≡ true →
    (among event last_events ≡ false → ServedByAccepted table (taking p o.next)) × (q.over ≡ false → EveryPair table q rest)

-- every job that begins: its first acts, and those after each pair
abbrev pub EveryAccessAccepted : Type 0
EveryAccessAccepted = (job : Job) (payload : List ℕ) (destination_length out_length : ℕ) (script : List ℕ) (c : Controller) →
    malformed job (length payload) destination_length out_length (length script) ≡ false → ready c ≡ true → length c.buffer ≡ 68 →
    AllAccepted (begins job) (starting c) × EveryPair (job_table job payload) (starts (begins job) c) script

-- The twelve: 08h, "at 08h the address byte and 40h"; the two at which it writes "then the data if any and 41h", 18h in a write and 40h in a read (the
-- status, and not the byte 40h of that sentence); "at the end (20h, 28h, 30h, 48h, 58h)"; answer 25, "38h"; answer 26, "00h, 70h, 78h".
abbrev pub job_statuses : List ℕ
job_statuses = 0x08 ∷ 0x18 ∷ 0x40 ∷ 0x20 ∷ 0x28 ∷ 0x30 ∷ 0x48 ∷ 0x58 ∷ 0x38 ∷ 0x00 ∷ 0x70 ∷ 0x78 ∷ []

-- what the driver reads in register 0 after an accepted pair, if it is not F8h
unfoldable pub status_seen : ℕ → Progress → List ℕ
status_seen event p =
    when among event last_events then []
    else when eqb (reads p.controller 0) 0xF8 then []
    else reads p.controller 0 ∷ []

-- the statuses that a run over a script meets, in order
unfoldable pub met : Table → Progress → List ℕ → List ℕ
met table p [] = []
met table p (event ∷ []) = []
met table p (event ∷ argument ∷ rest) =
    let o = event_of p.controller event argument in
    let q = serve table event (taking p o.next) in
    when eqb o.refused 0
    then status_seen event (taking p o.next) ++ (when q.over then [] else met table q rest)
    else []

-- each of these numbers is one of those
abbrev pub EachAmong : List ℕ → List ℕ → Type 0
EachAmong [] listed = Unit {0}
EachAmong (x ∷ xs) listed = (among x listed ≡ true) × EachAmong xs listed

-- every job that begins
abbrev pub OnlyListedStatuses : Type 0
OnlyListedStatuses = (job : Job) (payload : List ℕ) (destination_length out_length : ℕ) (script : List ℕ) (c : Controller) →
    malformed job (length payload) destination_length out_length (length script) ≡ false → ready c ≡ true → length c.buffer ≡ 68 →
    EachAmong (met (job_table job payload) (starts (begins job) c) script) job_statuses
