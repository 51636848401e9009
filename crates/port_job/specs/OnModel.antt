-- The port run against the model: each access is made on it, and each wait takes the script's next pair.
use Rattle.std.specs.Prelude.{List, [], ◌∷◌, ℕ, zero, suc, ◌+◌, eqb}
use Rattle.controller.specs.Access.{read_of, write_of}
use Rattle.controller.specs.Event.{event_of}
use Rattle.controller.specs.Reply.{Outcome, accepts}
use Rattle.controller.specs.declared.record.Controller.{Controller}
use Rattle.driver.specs.Run.{Result, Report}
use Rattle.notation.specs.Choice.{when◌then◌else◌}
unfoldable pub use Rattle.port.specs.Ask.{no_access}
use Rattle.port.specs.Port.{Port, step, asking, started, recovering, given_up, taken}
use Rattle.port.specs.declared.ask.Ask.TheVariants.{Write, Read, Wait, Pause, Over}
use Rattle.port.specs.declared.ask.Ask.{Ask}
use Rattle.service.specs.declared.job.Job.{Job}

-- the port, and the record of the controller that it drives
pub record At : Type 0 where
  pub port : Port
  pub chip : Controller

abbrev pub at : Port → Controller → At
at p c = record { port = p; chip = c }

-- what the model makes of an ask: a register access is one of the model's, anything else leaves it alone
unfoldable pub answers : Ask → Controller → Outcome
answers (Write register value) c = write_of c register value
answers (Read register) c = read_of c register
answers Wait c = accepts c 0
answers Pause c = accepts c 0
answers (Over answer count) c = accepts c 0

-- one exchange: the port hears what the model answered
unfoldable pub exchange : At → At
exchange s = let o = answers (asking s.port) s.chip in at (step s.port o.value) o.next

-- accesses are made until none is asked for. (There are at most 72 in a row: `Rests`, crates/port_chip.)
unfoldable pub rests_in : ℕ → At → At
rests_in zero s = s
rests_in (suc more) s = when no_access (asking s.port) then s else rests_in more (exchange s)

abbrev pub at_rest : At → At
at_rest s = rests_in 72 s

-- a wait is over: this is what the bus has made of the controller, and the port goes on to its next wait or its end
unfoldable pub woken : Port → Controller → At
woken p c = at_rest (at (step p 0) c)

-- What a run gives: the result, the bytes sent from here on, and the port as it is left.
pub record Played : Type 0 where
  pub result : Result
  pub sent : List ℕ
  pub port : Port

-- the port is over
unfoldable pub ends_so : At → ℕ → ℕ → ℕ → Played
ends_so s answer count events = record {
  result = record { next = s.chip; answer = answer; refused = 0; count = count; events = events };
  sent = [];
  port = s.port;
}

-- Nothing more comes, 27, or what came was refused by the model, 28 with its number beside it: the caller gives up. (A chip refuses no event: a script can.)
unfoldable pub breaks_so : At → ℕ → ℕ → ℕ → Played
breaks_so s answer refused events = record {
  result = record { next = s.chip; answer = answer; refused = refused; count = 0; events = events };
  sent = [];
  port = given_up s.port;
}

-- a byte that event 6 sent, and those of the rest
unfoldable pub sending_so : ℕ → ℕ → Played → Played
sending_so event value r = record { result = r.result; sent = when eqb event 6 then value ∷ r.sent else r.sent; port = r.port }

-- over, or what else
unfoldable pub unless_over : Ask → At → ℕ → Played → Played
unless_over (Write register value) s events otherwise = otherwise
unless_over (Read register) s events otherwise = otherwise
unless_over Wait s events otherwise = otherwise
unless_over Pause s events otherwise = otherwise
unless_over (Over answer count) s events otherwise = ends_so s answer count events

-- the run over a script's pairs
unfoldable pub plays : At → ℕ → List ℕ → Played
plays s events [] = unless_over (asking s.port) s events (breaks_so s 27 0 events)
plays s events (event ∷ []) = unless_over (asking s.port) s events (breaks_so s 27 0 events)
plays s events (event ∷ argument ∷ rest) =
    let o = event_of s.chip event argument in
    unless_over (asking s.port) s events
    (when eqb o.refused 0
    then sending_so event o.value (plays (woken s.port o.next) (events + 1) rest)
    else breaks_so s 28 o.refused events)

-- a job, from its start: what it gives, and the port as it is left
unfoldable pub played : Job → List ℕ → List ℕ → At → Played
played job payload script s = plays (at_rest (at (started s.port job payload) s.chip)) 0 script

-- the job's report: the bytes handed up are taken after it, into a destination of 68 bytes
unfoldable pub reported : Played → Report
reported r = record { result = r.result; sent = r.sent; handed = (taken r.port 68).handed }

-- a recovery: its writes, and the pause after them
unfoldable pub recovered : List ℕ → At → At
recovered settings s = exchange (at_rest (at (recovering s.port settings) s.chip))
