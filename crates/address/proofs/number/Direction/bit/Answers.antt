-- `bit` is `bit_of`: a direction's number is its R.
use denote.Enum.Declared.{tag_of}
use mathlib.Core.Path.{◌≡◌, refl}
use Rattle.address.specs.Number.{bit_of}
use Rattle.address.specs.contracts.number.Direction.{the_type}
use Rattle.address.specs.declared.number.Direction.TheVariants.{Write, Read}
use Rattle.address.specs.declared.number.Direction.{Direction}
use Rattle.address.proofs.number.Direction.bit.Goals as goal

tag-bit : (d : Direction) → tag_of the_type d ≡ bit_of d
unfolding bit_of
tag-bit Write = refl
tag-bit Read = refl

pub returns : goal.returns
returns c = tag-bit c.args.self
