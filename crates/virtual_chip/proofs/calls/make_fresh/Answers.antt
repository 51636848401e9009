-- `make_fresh` is `fresh_call`.
use Rattle.std.proofs.Common.{rules}
use Rattle.virtual_chip.proofs.Bytes.{made, made_not}
use Rattle.virtual_chip.proofs.calls.make_fresh.Goals as goal

pub returns-in_default : goal.returns-in_default
returns-in_default c =
    let left = made_not c.args.memory.now c.in_default.ensures.cases in
    record { answer = left.0; bytes = left.1 }

pub returns : goal.returns
returns c =
    let there = made c.args.memory.now c.fresh.result _ (search rules) c.in-Some.ensures.cases.enough c.fresh.ensures c.encode.ensures in
    record { answer = there.0; bytes = there.1 }
