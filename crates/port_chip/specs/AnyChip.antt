-- Whatever the chip answers, by the rules or not: six claims about the port, in which the values that it hears are any list. The proofs are in
-- proofs/AnyChip.antt.
use Rattle.std.specs.Prelude.{Bool, true, false, List, [], ◌∷◌, ◌++◌, map, ◌≡◌, ℕ, ◌≤◌, eqb, length}
use Rattle.address.specs.declared.number.Direction.TheVariants as direction
use Rattle.address.specs.declared.number.Direction.{Direction}
use Rattle.notation.specs.Choice.{among}
use Rattle.port.specs.Begin.{unsettled}
use Rattle.port.specs.Look.{still_control, stopped_control}
use Rattle.port.specs.Port.{Port, step, asking, started, given_up, taken}
use Rattle.port.specs.Stand.{at_stage}
use Rattle.port.specs.declared.ask.Ask.TheVariants.{Write, Read, Wait, Pause, Over}
use Rattle.port.specs.declared.ask.Ask.{Ask}
use Rattle.port.specs.declared.stage.Stage.TheVariants.{Waiting, Interrupted}
use Rattle.port_chip.specs.Passed.{Exchange, ◌gave◌, after_all, passed, rests}
use Rattle.service.specs.declared.job.Job.{Job}

-- Between two waits there are at most so many accesses: never 73 in a row, from whatever state. (In a job 72: three looks, 68 bytes and one write of
-- I2CCON; in a recovery 16.)
abbrev pub Rests : Type 0
Rests = (p : Port) (values : List ℕ) → length p.payload ≤ 68 → length values ≡ 72 → rests p values ≡ true

-- Giving up ends it at once from any state: over with 27, and it stays so, whatever is heard after it.
abbrev pub EndsAtOnce : Type 0
EndsAtOnce = (p : Port) (values : List ℕ) → asking (after_all (given_up p) values) ≡ Over 27 0

-- Nothing is asked of the bus: a wait, or a look at I2CCON or I2CSTA.
unfoldable pub is_look : Ask → Bool
is_look (Write register value) = false
is_look (Read register) = among register (3 ∷ 0 ∷ [])
is_look Wait = true
is_look Pause = false
is_look (Over answer count) = false

abbrev pub AllLook : List Exchange → Type 0
AllLook [] = Unit {0}
AllLook (x ∷ xs) = (is_look x.asked ≡ true) × AllLook xs

-- I2CDAT is read and these are the values heard
abbrev pub reads_of : List ℕ → List Exchange
reads_of values = map (λ (value : ℕ). Read 1 gave value) values

-- What it takes to hand up bytes: status 58h was read, then I2CDAT n times, then I2CCON with ENSIO 1 and SI 1 still, then I2CCON with ENSIO 1, SI 0 and STO 0,
-- all in this job; and the bytes are exactly the n values that these reads gave, in order. What passed since the job began is so made up.
pub record ProvenRead (job : Job) (exchanges : List Exchange) (handed : List ℕ) : Type 0 where
  pub before : List Exchange
  pub rechecked : ℕ
  pub heard : ℕ
  pub looks : List Exchange
  pub control : ℕ
  -- 58h, n reads, a look at I2CCON, 50h, looks alone, and the look that showed own STOP
  pub made_up : exchanges ≡
      before
      ++ ((Read 0 gave 0x58) ∷ (reads_of handed ++ ((Read 3 gave rechecked) ∷ ((Write 3 0x50 gave heard) ∷ (looks ++ ((Read 3 gave control) ∷ []))))))
  -- no reset came amid the reads: I2CCON would read 00h
  pub still : still_control rechecked ≡ true
  pub all_look : AllLook looks
  pub stopped : stopped_control control ≡ true
  pub number : length handed ≡ job.n
  pub is_read : job.direction ≡ direction.Read

-- a job begun in whatever state, whatever the chip then answers: where bytes are handed up they are those of a proven read, and else there are none
pub record HandsUpProven (job : Job) (exchanges : List Exchange) (answer : ℕ) (handed : List ℕ) : Type 0 where
  pub proven : answer ≡ 0 → ProvenRead job exchanges handed
  pub none : eqb answer 0 ≡ false → handed ≡ []

abbrev pub OnlyProven : Type 0
OnlyProven = (p : Port) (job : Job) (bytes : List ℕ) (values : List ℕ) (room : ℕ) →
    let q = started p job bytes in
    let t = taken (after_all q values) room in HandsUpProven job (passed q values) t.answer t.handed

-- the status at which a job is done
abbrev pub done_status : Direction → ℕ
done_status direction.Write = 0x28
done_status direction.Read = 0x58

-- What it takes for a job to be done: that status was read, then 50h was written, then nothing but waits and looks passed, the last of which showed own
-- STOP. What passed since the job began is so made up.
pub record DoneSo (job : Job) (exchanges : List Exchange) : Type 0 where
  pub before : List Exchange
  -- the n reads of a read and the look after them; none in a write
  pub between : List Exchange
  pub heard : ℕ
  pub looks : List Exchange
  pub control : ℕ
  pub made_up :
      exchanges
      ≡ before
      ++ ((Read 0 gave done_status job.direction) ∷ (between ++ ((Write 3 0x50 gave heard) ∷ (looks ++ ((Read 3 gave control) ∷ [])))))
  pub all_look : AllLook looks
  pub stopped : stopped_control control ≡ true

-- a job begun in whatever state, read or write, whatever the chip then answers: it is over with 0 only so
abbrev pub DoneOnlyAfter : Type 0
DoneOnlyAfter = (p : Port) (job : Job) (bytes values : List ℕ) (count : ℕ) →
    let q = started p job bytes in asking (after_all q values) ≡ Over 0 count → DoneSo job (passed q values)

-- What the state held before the start shows in nothing after it, but whether the chip has to be brought back: the whole state is the same.
abbrev pub OldStateUnseen : Type 0
OldStateUnseen = (p q : Port) (job : Job) (bytes : List ℕ) → unsettled p.stand ≡ unsettled q.stand → started p job bytes ≡ started q job bytes

-- I2CSTA reads F8h though SI was 1 a moment before: it waits on, with all that it has noted, and no answer comes of it.
abbrev pub WaitsOn : Type 0
WaitsOn = (p : Port) → p.stand.stage ≡ Interrupted → ((step p 0xF8).stand ≡ at_stage p.stand Waiting) × (asking (step p 0xF8) ≡ Wait)
