-- `hear` does what the stage says: a recovery has 4 accesses more than settings.
use mathlib.Core.Path.{◌≡◌, sym, ap, ◌∙◌}
use Prim.Native.Nat.{ℕ, ◌+◌}
use native.Mathlib.Omega.{arith}
use lib.Dec.{ltb}
use lib.ListN.{length, length-take}
use Rattle.notation.specs.Choice.{when◌then◌else◌}
use Rattle.port.proofs.Nth.{recovers-total}
use Rattle.port.specs.Hear.{onward, hears_at, hears}
use Rattle.port.specs.InHand.{in_hand_at}
use Rattle.port.specs.Stand.{at_stage, advanced}
use Rattle.port.specs.declared.stage.Stage.TheVariants.{Pausing}
use Rattle.port.specs.declared.stage.Stage.{Stage}
use Rattle.port.proofs.stand.Stand.hear.Goals as goal

pub returns-in-Recovering : goal.returns-in-Recovering
unfolding hears hears_at onward in_hand_at
returns-in-Recovering c =
    let args = c.args in
    let s = args.self in
    let xs = args.payload.now in
    let at = c.in-Recovering.is in
    let all : length c.bytes.result.now + 4 ≡ length (in_hand_at s.stage s xs) =
    omega (arith, ap length c.bytes.ensures, ap (λ (x : Stage). length (in_hand_at x s xs)) at, recovers-total s.job.n xs, length-take s.job.n xs) in
    c.onward-in-Recovering.ensures
    ∙ ap (λ (total : ℕ). when ltb (s.made + 1) total then advanced s else at_stage s Pausing) all
    ∙ sym (ap (λ (x : Stage). hears_at x s xs args.value) at)
