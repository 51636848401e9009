-- `hand_up` lays `hands_up` over the destination: what is known at each return settles the test of the definition.
use mathlib.Core.List.{List, ◌++◌}
use mathlib.Core.Path.{◌≡◌, sym, ap}
use Prim.Native.Nat.{ℕ}
use native.Mathlib.Omega.{arith}
use lib.ListN.{take, drop}
use lib.Seq.{length-take-le}
use Rattle.std.proofs.lemmas.Grind.{common_steps}
use Rattle.address.specs.Number.{bit_of}
use Rattle.address.specs.declared.number.Direction.TheVariants.{Read}
use Rattle.answer.specs.Ending.{number_of}
use Rattle.driver.specs.Run.{hands_up}
use Rattle.notation.proofs.Laid.{laid-whole}
use Rattle.notation.specs.Overlay.{laid}
use Rattle.notation.specs.Choice.{when◌then◌else◌, ◌and◌}
use Rattle.driver.proofs.hand_up.hand_up.Goals as goal

pub slice_bounds-copy_from_slice-end-then-eq-2 : goal.slice_bounds-copy_from_slice-end-then-eq-2
slice_bounds-copy_from_slice-end-then-eq-2 c =
    let read : c.args.job.direction ≡ Read = grind (arith, common_steps) in
    sym (length-take-le c.args.job.n c.args.destination.now (c.requires.lent read))

pub returns-then-eq-2 : goal.returns-then-eq-2
unfolding hands_up when◌then◌else◌ ◌and◌ bit_of
returns-then-eq-2 c =
    let job = c.args.job in
    let bytes = take job.n c.args.fetched.now in
    let read : job.direction ≡ Read = grind (arith, common_steps) in
    let l = length-take-le job.n c.args.fetched.now (omega arith) in
    let room = c.requires.lent read in
    let destination = c.args.destination.now in
    let handed : hands_up job (number_of c.args.ending) c.args.fetched.now ≡ bytes = grind (arith, common_steps) in
    rw (handed, laid-whole bytes destination (omega (arith, l, room)), l)
    (ap (λ (xs : List ℕ). xs ++ drop job.n destination) c.copy_from_slice.ensures.after)

pub returns-else-eq : goal.returns-else-eq
unfolding hands_up laid when◌then◌else◌ ◌and◌ bit_of
returns-else-eq c = grind (arith, common_steps)
