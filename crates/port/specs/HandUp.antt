-- Handing up: a step of its own, after the job is over.
use Rattle.std.specs.Prelude.{not, List, [], ℕ, eqb, ltb, take}
use Rattle.address.specs.Number.{bit_of}
use Rattle.notation.specs.Choice.{when◌then◌else◌, ◌or◌}
use Rattle.port.specs.Stage.{over, stage_number}
use Rattle.port.specs.declared.stand.Stand.{Stand}

-- the answer, 0 where bytes are handed up, and these bytes
pub record Taken : Type 0 where
  pub answer : ℕ
  pub handed : List ℕ

abbrev pub nothing : ℕ → Taken
nothing answer = record { answer = answer; handed = [] }

-- Of a job answered 0: its n bytes where it was a read, and 21 where it was none or the destination is too short. (R is 1 for a read.)
unfoldable pub take_done : Stand → List ℕ → ℕ → Taken
take_done s fetched destination_length =
    when not (eqb (bit_of s.job.direction) 1) or ltb destination_length s.job.n then nothing 21
    else record { answer = 0; handed = take s.job.n fetched }

-- of any other nothing, and why: 27 while it lasts, then its own answer
unfoldable pub take_of : Stand → List ℕ → ℕ → Taken
take_of s fetched destination_length =
    when not (eqb (stage_number s.stage) over) then nothing 27
    else when not (eqb s.answer 0) then nothing s.answer
    else take_done s fetched destination_length
