-- `match_address` is `match_of`: its two parts are those of the definition.
use Rattle.address.specs.Matching.{match_of}
use Rattle.address.proofs.matching.match_address.Goals as goal

pub returns : goal.returns
unfolding match_of
returns c = rw (c.match_call.ensures, c.address.ensures)
