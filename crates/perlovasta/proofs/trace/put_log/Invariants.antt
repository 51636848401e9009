use mathlib.Core.Bool.{true}
use mathlib.Core.Path.{◌≡◌}
use Prim.Native.Nat.{◌*◌}
use lib.ListN.{length, drop}
use Rattle.controller.specs.Record.{sound}
use Rattle.notation.specs.Overlay.{laid, laid_at}
use Rattle.perlovasta.specs.Trace.{log_of}
use Rattle.perlovasta.proofs.trace.put_log.Given as goal

abbrev pub invariant-loop-i : goal.invariant-loop-i
invariant-loop-i l =
    (length l.log ≡ length l.initial.log) × (sound l.c ≡ true) ×
    (laid_at (8 * l.i) (log_of l.c (drop (3 * l.i) l.trace)) l.log ≡ laid (log_of l.initial.c l.trace) l.initial.log)
