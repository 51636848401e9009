-- `is_met` is `among` of what the direction meets: they are the numbers of its one arm.
use mathlib.Core.Bool.{true}
use mathlib.Core.List.{List, [], ◌∷◌}
use mathlib.Core.Path.{sym}
use Prim.Native.Nat.{ℕ}
use Rattle.address.specs.declared.number.Direction.TheVariants.{Write, Read}
use Rattle.notation.proofs.Among.{keys_in, none_of, without}
use Rattle.port.specs.Look.{meets}
use Rattle.port.proofs.look.is_met.Goals as goal

abbrev of_write : List ℕ
of_write = 0x00 ∷ 0x08 ∷ 0x18 ∷ 0x20 ∷ 0x28 ∷ 0x30 ∷ 0x38 ∷ 0x70 ∷ 0x78 ∷ []

abbrev of_read : List ℕ
of_read = 0x00 ∷ 0x08 ∷ 0x38 ∷ 0x40 ∷ 0x48 ∷ 0x58 ∷ 0x70 ∷ 0x78 ∷ []

pub returns-in-8 : goal.returns-in-8
returns-in-8 c = rw c.in-Write.is (sym (keys_in of_write c.args.status c.in-8.is true (meets Write) tt))

pub returns-in_default : goal.returns-in_default
returns-in_default c =
    let others = none_of of_write c.args.status c.in_default.in_default-own.rest.1 in
    rw c.in-Write.is (sym (without c.args.status (meets Write) of_write tt others))

pub returns-in-8-matches : goal.returns-in-8-matches
returns-in-8-matches c = rw c.in-Read.is (sym (keys_in of_read c.args.status c.in-8-matches.is true (meets Read) tt))

pub returns-in_default-matches : goal.returns-in_default-matches
returns-in_default-matches c =
    rw c.in-Read.is (sym (without c.args.status (meets Read) of_read tt (none_of of_read c.args.status c.in_default-matches.in_default-matches-own.rest.1)))
