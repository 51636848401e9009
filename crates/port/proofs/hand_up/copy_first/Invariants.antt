use mathlib.Core.Path.{◌≡◌}
use lib.ListN.{take, drop}
use Rattle.notation.specs.Overlay.{laid, laid_at}
use Rattle.port.proofs.hand_up.copy_first.Given as goal

abbrev pub invariant-loop-i : goal.invariant-loop-i
invariant-loop-i l = laid_at l.i (drop l.i (take l.n l.bytes)) l.destination ≡ laid (take l.n l.bytes) l.initial.destination
