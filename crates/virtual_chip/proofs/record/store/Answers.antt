-- `store` lays the record, or nothing.
use Rattle.std.proofs.Common.{rules}
use Rattle.virtual_chip.proofs.Bytes.{stored-whole, stored_not}
use Rattle.virtual_chip.proofs.record.store.Goals as goal

pub returns-in-Some : goal.returns-in-Some
returns-in-Some c = rw c.encode.ensures (stored-whole c.args.c c.args.memory.now (search rules) c.in-Some.ensures.cases.enough)

pub returns-in_default : goal.returns-in_default
returns-in_default c = stored_not _ _ c.in_default.ensures.cases
