-- A board may look now and then in place of waiting for the interrupt: a look at which nothing has come leaves port and controller as they were. The proof is
-- in proofs/LooksFree.antt.
use Rattle.std.specs.Prelude.{true, false, List, [], ◌∷◌, ◌≡◌, ℕ, eqb, length}
use Rattle.controller.specs.Event.{event_of}
use Rattle.controller.specs.Record.{sound}
use Rattle.port.specs.Begin.{bad_settings}
use Rattle.port.specs.Port.{asking, started}
use Rattle.port.specs.declared.ask.Ask.TheVariants.{Wait}
use Rattle.port_job.specs.Items.{Item, job, recovery, event, leaves}
use Rattle.port_job.specs.OnModel.{At, at, at_rest, woken}

-- the wait is over and nothing has come: the port looks, and waits again
abbrev pub LooksFree : At → Type 0
LooksFree s = asking s.port ≡ Wait → woken s.port s.chip ≡ s

-- so at every wait of a run over a script
abbrev pub AtEveryWait : At → List ℕ → Type 0
AtEveryWait s [] = LooksFree s
AtEveryWait s (number ∷ []) = LooksFree s
AtEveryWait s (number ∷ argument ∷ rest) =
    LooksFree s ×
    (asking s.port ≡ Wait → eqb (event_of s.chip number argument).refused 0 ≡ true →
    AtEveryWait (woken s.port (event_of s.chip number argument).next) rest)

abbrev pub InJob : Item → At → Type 0
InJob (job asked payload script) s = AtEveryWait (at_rest (at (started s.port asked payload) s.chip)) script
InJob (recovery settings) s = Unit {0}
InJob (event number argument) s = Unit {0}

abbrev pub InEach : List Item → At → Type 0
InEach [] s = Unit {0}
InEach (x ∷ xs) s = InJob x s × InEach xs (leaves x s)

-- in every job of a list, from a recovery on
abbrev pub LooksAreFree : Type 0
LooksAreFree = (settings : List ℕ) (items : List Item) (s : At) → sound s.chip ≡ true → length s.chip.buffer ≡ 68 →
    bad_settings settings ≡ false → InEach (recovery settings ∷ items) s
