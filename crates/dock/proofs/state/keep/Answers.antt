-- `keep` stores one of the bytes read back; where it has no place all stays as it was.
use mathlib.Core.Path.{refl, sym}
use Prim.Native.Nat.{◌+◌}
use native.Mathlib.Omega.{arith}
use Rattle.notation.proofs.Laid.{set_in, set-none}
use Rattle.dock.proofs.state.keep.Goals as goal

pub returns-in-Some : goal.returns-in-Some
returns-in-Some c =
    let a = c.args in
    let i = c.in-Some.i in
    rw c.in-Some.is (set_in 80 68 i (80 + i) a.value a.state.now refl (rw c.in-Some.is at c.requires) (omega arith))

pub returns-in_default : goal.returns-in_default
returns-in_default c =
    let a = c.args in
    rw c.in_default.is (sym (set-none 80 68 a.value a.state.now (omega arith) (omega arith)))
