-- The state in lent bytes: 148 of them.
use Rattle.std.specs.Prelude.{Bool, not, List, [], ◌∷◌, ◌++◌, ℕ, eqb, take, drop, get_or}
use Rattle.address.specs.Number.{bit_of}
use Rattle.notation.specs.Choice.{when◌then◌else◌, ◌and◌}
use Rattle.port.specs.Port.{Port}
use Rattle.port.specs.Stage.{stage_number, stage_for}
use Rattle.port.specs.Stand.{stand, new}
use Rattle.port.specs.declared.stand.Stand.{Stand}
use Rattle.requests.specs.Jobs.{job_for}

abbrev pub head_size : ℕ
head_size = 12

abbrev pub state_size : ℕ
state_size = 148

unfoldable pub bit : Bool → ℕ
bit b = when b then 1 else 0

-- the first 12: two that mark a state (50h, 76h), the stage, the job, and where it stands
unfoldable pub head_bytes : Stand → List ℕ
head_bytes s =
    0x50 ∷ 0x76 ∷ stage_number s.stage ∷ bit_of s.job.direction ∷ s.job.address.0 ∷ s.job.n ∷ s.status ∷ s.made ∷ bit s.due ∷
    s.answer ∷ s.count ∷ bit s.stale ∷ []

-- then 68 of data and 68 of bytes read back
unfoldable pub bytes_of : Port → List ℕ
bytes_of p = head_bytes p.stand ++ (p.payload ++ p.fetched)

-- the mark
unfoldable pub marked : List ℕ → Bool
marked m = eqb (get_or m 0 0) 0x50 and eqb (get_or m 1 0) 0x76

-- where a job stands, by any bytes; without the mark the state is new. (Whatever is not 0 in the last of them says that the chip has to be brought back.)
unfoldable pub stand_of : List ℕ → Stand
stand_of m =
    when marked m
    then stand (stage_for (get_or m 2 0)) (job_for (get_or m 3 0) (get_or m 4 0) (get_or m 5 0)) (get_or m 6 0) (get_or m 7 0)
    (eqb (get_or m 8 0) 1) (get_or m 9 0) (get_or m 10 0) (not (eqb (get_or m 11 0) 0))
    else new

unfoldable pub port_of : List ℕ → Port
port_of m = record { stand = stand_of m; payload = take 68 (drop 12 m); fetched = take 68 (drop 80 m) }
