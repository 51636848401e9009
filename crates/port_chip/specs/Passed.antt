-- What passes between the port and whatever answers it: a chip by the rules, a faulty one, or none.
use Rattle.std.specs.Prelude.{Bool, true, false, List, [], ◌∷◌, ℕ}
use Rattle.notation.specs.Choice.{when◌then◌else◌, ◌or◌}
unfoldable pub use Rattle.port.specs.Ask.{no_access}
unfoldable pub use Rattle.port.specs.Port.{after_all}
use Rattle.port.specs.Port.{Port, step, asking}
use Rattle.port.specs.declared.ask.Ask.TheVariants.{Write, Read, Wait, Pause, Over}
use Rattle.port.specs.declared.ask.Ask.{Ask}

-- nothing is asked for any more
unfoldable pub is_over : Ask → Bool
is_over (Write register value) = false
is_over (Read register) = false
is_over Wait = false
is_over Pause = false
is_over (Over answer count) = true

-- an exchange: what was asked for, and the value heard
pub record Exchange : Type 0 where
  pub asked : Ask
  pub heard : ℕ

infixr 40 ◌gave◌
abbrev pub ◌gave◌ : Ask → ℕ → Exchange
◌gave◌ asked heard = record { asked = asked; heard = heard }

-- the exchanges until it is over
unfoldable pub passed : Port → List ℕ → List Exchange
passed p [] = []
passed p (value ∷ values) = when is_over (asking p) then [] else (record { asked = asking p; heard = value } ∷ passed (step p value) values)

-- somewhere among what is asked for, from now on to the last of these values, there is no access
unfoldable pub rests : Port → List ℕ → Bool
rests p [] = no_access (asking p)
rests p (value ∷ values) = no_access (asking p) or rests (step p value) values
