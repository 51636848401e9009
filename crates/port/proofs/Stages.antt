-- The tag that a stage is compared by is its number. Assumes nothing.
use mathlib.Core.Path.{◌≡◌, refl}
use denote.Enum.Declared.{tag_of}
use Rattle.port.specs.Stage.{stage_number}
use Rattle.port.specs.contracts.stage.Stage.{the_type}
use Rattle.port.specs.declared.stage.Stage.TheVariants.{Over, Control, Status, First, Waiting, Look, Interrupted, Working, Recovering, Pausing, Recheck}
use Rattle.port.specs.declared.stage.Stage.{Stage}

pub tag_number : (s : Stage) → tag_of the_type s ≡ stage_number s
unfolding stage_number
tag_number Over = refl
tag_number Control = refl
tag_number Status = refl
tag_number First = refl
tag_number Waiting = refl
tag_number Look = refl
tag_number Interrupted = refl
tag_number Working = refl
tag_number Recovering = refl
tag_number Pausing = refl
tag_number Recheck = refl
