use mathlib.Core.Path.{◌≡◌}
use Prim.Native.Nat.{◌+◌}
use lib.ListN.{drop}
use Rattle.notation.specs.Overlay.{laid_at}
use Rattle.port.specs.Port.{padded}
use Rattle.dock.proofs.memory.put_padded.Given as goal

abbrev pub invariant-loop-i : goal.invariant-loop-i
invariant-loop-i l = laid_at (l.at + l.i) (drop l.i (padded l.bytes)) l.state ≡ laid_at l.at (padded l.bytes) l.initial.state
