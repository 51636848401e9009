-- A job is begun, the chip brought back, or all given up. Each leaves a state that answers for itself: an answer from before is never found there.
use Rattle.std.specs.Prelude.{Bool, true, false, not, List, [], ◌∷◌, ℕ, eqb, ltb, length}
use Rattle.notation.specs.Choice.{when◌then◌else◌, ◌or◌, among}
use Rattle.port.specs.Stage.{over, stage_number}
use Rattle.port.specs.Stand.{stand, broken_off, no_job}
use Rattle.port.specs.declared.stage.Stage.TheVariants.{Control, Recovering}
use Rattle.port.specs.declared.stand.Stand.{Stand}
use Rattle.service.specs.Request.{malformed}
use Rattle.service.specs.declared.job.Job.{Job}

-- 21, as a job's. Destination, out record and script are not lent here: long enough, and none.
abbrev pub unfit : Job → ℕ → Bool
unfit job dataLength = malformed job dataLength 68 69 0

-- The chip has to be brought back first: the state is new, or something was given up or is under way.
unfoldable pub unsettled : Stand → Bool
unsettled s = not (eqb (stage_number s.stage) over) or s.stale

-- a job begins: 21; 22, with no access made; or I2CCON is asked for. (27 stands as the answer until it is over, and nobody sees it.)
unfoldable pub start_of : Stand → Job → ℕ → Stand
start_of s job dataLength =
    when unfit job dataLength then broken_off 21 (unsettled s)
    else when unsettled s then broken_off 22 true
    else stand Control job 0 0 false 27 0 false

-- the registers that a recovery can set, by pointer: I2CCOUNT, I2CADR, the clock's two, I2CTO and I2CMODE
abbrev pub settable : List ℕ
settable = 0 ∷ 1 ∷ 2 ∷ 3 ∷ 4 ∷ 6 ∷ []

-- pairs of a pointer and a value
unfoldable pub bad_pairs : List ℕ → Bool
bad_pairs [] = false
bad_pairs (pointer ∷ []) = true
bad_pairs (pointer ∷ value ∷ rest) = not (among pointer settable) or bad_pairs rest

-- 21: not whole pairs, another register, or more than six pairs
unfoldable pub bad_settings : List ℕ → Bool
bad_settings settings = ltb 12 (length settings) or bad_pairs settings

-- a recovery begins, whatever was under way: 21, or its first write is asked for. Until it is over the chip is not brought back.
unfoldable pub recover_of : Stand → List ℕ → Stand
recover_of s settings =
    when bad_settings settings then broken_off 21 (unsettled s)
    else stand Recovering (no_job (length settings)) 0 0 false 27 0 true

-- all is given up, from any state: 27, and the chip has to be brought back
unfoldable pub give_up_of : Stand → Stand
give_up_of s = broken_off 27 true
