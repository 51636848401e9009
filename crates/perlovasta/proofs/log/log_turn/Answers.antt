-- Of every turn but Host `log_turn` is its number.
use mathlib.Core.Path.{◌∙◌}
use Rattle.perlovasta.proofs.Numbers.{logged_other}
use Rattle.perlovasta.proofs.log.log_turn.Goals as goal

pub returns-in_default : goal.returns-in_default
returns-in_default c = c.turn_number.ensures ∙ logged_other _ c.in_default.not-Host
