-- `store` lays the head: its bytes are stored one by one, as its calls promise them.
use mathlib.Core.Bool.{Bool, true, false}
use mathlib.Core.Path.{◌≡◌, refl, sym}
use mir.Val.{bool_byte}
use native.Mathlib.Omega.{arith}
use Rattle.dock.specs.StateBytes.{bit, head_bytes}
use Rattle.notation.proofs.Laid.{laid_sets}
use Rattle.notation.specs.Choice.{when◌then◌else◌}
use Rattle.dock.proofs.state.store.Goals as goal

bit_is : (b : Bool) → bool_byte b ≡ bit b
unfolding bit when◌then◌else◌
bit_is true = refl
bit_is false = refl

pub returns : goal.returns
unfolding head_bytes
returns c =
    let s = c.args.s in
    rw (c.from.ensures, c.bit.ensures, c.from-2.ensures, c.from-3.ensures, bit_is s.due, bit_is s.stale)
    (sym (laid_sets (head_bytes s) c.args.state.now (omega arith)))
