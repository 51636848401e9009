-- `byte` is `reads_as`: a bit times its weight is the weight where the bit is set.
use Rattle.control.proofs.Weights.{weighed, weighed_one}
use Rattle.control.specs.Flags.{reads_as}
use Rattle.control.proofs.flags.Control.byte.Goals as goal

pub returns : goal.returns
unfolding reads_as
returns c =
    rw (
      weighed c.args.self.aa 128 c.from.result c.from.ensures,
      weighed c.args.self.ensio 64 c.from-2.result c.from-2.ensures,
      weighed c.args.self.sta 32 c.from-3.result c.from-3.ensures,
      weighed c.args.self.sto 16 c.from-4.result c.from-4.ensures,
      weighed c.args.si 8 c.from-5.result c.from-5.ensures,
      weighed_one c.args.self.mode c.from-6.result c.from-6.ensures,
    )
