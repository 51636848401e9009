-- `is_ready` is `ready`: Free is the one turn of its kind.
use mathlib.Core.Bool.{true}
use mathlib.Core.List.{[], ◌∷◌}
use mathlib.Core.Path.{◌≡◌, refl}
use native.Mathlib.Omega.{arith}
use Rattle.std.proofs.lemmas.Grind.{common_steps}
use Rattle.control.specs.Turn.{free, kind, waits}
use Rattle.control.specs.declared.turn.Turn.TheVariants.{Off, Host, Free, Busy, Listen}
use Rattle.control.specs.declared.turn.Turn.TheVariants.{Address, Send, Receive, SlaveReceive, SlaveSend, Stopping, Restarting}
use Rattle.control.specs.declared.turn.Turn.{Turn}
use Rattle.notation.specs.Choice.{when◌then◌else◌, ◌and◌, among}
use Rattle.service.specs.Request.{ready}
use Rattle.service.proofs.checks.is_ready.Goals as goal

free_waits : (t : Turn) → t ≡ Free → waits t (free ∷ []) ≡ true
unfolding kind among when◌then◌else◌
free_waits t e = rw e refl

waits_free : (t : Turn) → waits t (free ∷ []) ≡ true → t ≡ Free
unfolding kind among when◌then◌else◌
waits_free Off e = cc
waits_free (Host s d) e = cc
waits_free Free e = refl
waits_free Busy e = cc
waits_free Listen e = cc
waits_free Address e = cc
waits_free Send e = cc
waits_free Receive e = cc
waits_free (SlaveReceive w) e = cc
waits_free SlaveSend e = cc
waits_free Stopping e = cc
waits_free Restarting e = cc

pub returns-then-c : goal.returns-then-c
unfolding ready ◌and◌
returns-then-c c = grind (arith, common_steps, free_waits, waits_free)

pub returns-else-c : goal.returns-else-c
unfolding ready ◌and◌
returns-else-c c = grind (arith, common_steps, free_waits, waits_free)
