-- The port's whole state, and a step of it.
use Rattle.std.specs.Prelude.{List, [], ◌∷◌, ◌++◌, ℕ, length, take, set, replicate}
use Rattle.address.specs.declared.number.Direction.TheVariants.{Write, Read}
use Rattle.address.specs.declared.number.Direction.{Direction}
use Rattle.port.specs.Begin.{start_of, recover_of, give_up_of}
use Rattle.port.specs.HandUp.{Taken, take_of}
use Rattle.port.specs.Hear.{hears, noted_at, asks}
use Rattle.port.specs.declared.ask.Ask.{Ask}
use Rattle.port.specs.declared.stand.Stand.{Stand}
use Rattle.service.specs.declared.job.Job.{Job}

-- where the job stands; the data of a write, or the settings of a recovery; the bytes read back
pub record Port : Type 0 where
  pub stand : Stand
  pub payload : List ℕ
  pub fetched : List ℕ

-- one step: the value that the last access read is heard, and noted where the access says so; `asking` tells the next
unfoldable pub step : Port → ℕ → Port
step p value = record {
  stand = hears p.stand p.payload value;
  payload = p.payload;
  fetched = set p.fetched (noted_at p.stand p.payload) value;
}

abbrev pub asking : Port → Ask
asking p = asks p.stand p.payload

-- the port once it has heard these values, one after the other
unfoldable pub after_all : Port → List ℕ → Port
after_all p [] = p
after_all p (value ∷ values) = after_all (step p value) values

-- 68 places that begin with these bytes, and zeros after them
unfoldable pub padded : List ℕ → List ℕ
padded xs = take 68 (xs ++ replicate 68 0)

-- "Data .. are meant as the bytes they hold when the job begins" (document 01): they are copied then. Of a read none are looked at.
unfoldable pub kept_data : Direction → ℕ → List ℕ → List ℕ
kept_data Write n bytes = take n bytes
kept_data Read n bytes = []

-- a job begins, and nothing of the state before it stays but whether the chip has to be brought back
unfoldable pub started : Port → Job → List ℕ → Port
started p job bytes = record {
  stand = start_of p.stand job (length bytes);
  payload = padded (kept_data job.direction job.n bytes);
  fetched = replicate 68 0;
}

-- a recovery begins
unfoldable pub recovering : Port → List ℕ → Port
recovering p settings = record { stand = recover_of p.stand settings; payload = padded settings; fetched = replicate 68 0 }

unfoldable pub given_up : Port → Port
given_up p = record { stand = give_up_of p.stand; payload = p.payload; fetched = p.fetched }

abbrev pub taken : Port → ℕ → Taken
taken p destination_length = take_of p.stand p.fetched destination_length
