-- `load` is `record_of`.
use Rattle.virtual_chip.proofs.Bytes.{loaded}
use Rattle.virtual_chip.proofs.record.load.Goals as goal

pub returns : goal.returns
returns c = loaded _ _ _ c.decode.ensures c.unwrap_or_else.ensures
