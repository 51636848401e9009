-- `byte` is `byte_of`: what is known at each return settles the tests of the definition.
use Prim.Native.Nat.{◌≤◌}
use native.Mathlib.Omega.{arith}
use lib.Dec.{lit≤}
use Rattle.address.specs.Number.{bit_of, byte_of}
use Rattle.address.specs.declared.number.Direction.TheVariants.{Write, Read}
use Rattle.address.specs.declared.number.Direction.{Direction}
use Rattle.address.proofs.number.Address.byte.Goals as goal

bit_small : (d : Direction) → bit_of d ≤ 1
unfolding bit_of
bit_small Write = lit≤ tt
bit_small Read = lit≤ tt

pub overflow_add-result : goal.overflow_add-result
overflow_add-result c = omega (arith, c.bit.ensures, bit_small c.args.direction)

pub returns : goal.returns
unfolding byte_of
returns c = rw c.bit.ensures
