-- `decode` gives the record if the first 88 bytes are one.
use Rattle.std.proofs.Common.{rules}
use Rattle.virtual_chip.proofs.Bytes.{no_room, decoded-of}
use Rattle.virtual_chip.proofs.record.decode.Goals as goal

pub returns-in_err-first_chunk : goal.returns-in_err-first_chunk
returns-in_err-first_chunk c = search (no_room c.args.memory.now c.in_err-first_chunk.ensures.cases, rules)

pub returns : goal.returns
returns c = decoded-of _ _ _ c.in_ok-first_chunk.ensures.cases.enough c.in_ok-first_chunk.ensures.cases.same c.parse.ensures
