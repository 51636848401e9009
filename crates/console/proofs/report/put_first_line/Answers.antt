-- `put_first_line` puts its words and numbers, one after the other.
use mathlib.Core.Path.{ap}
use Rattle.console.specs.JobText.{first_line}
use Rattle.text.specs.Text.{decimal_of}
use Rattle.driver.specs.Run.{result_of}
use Rattle.text.proofs.Holds.{said, chain}
use Rattle.console.proofs.report.put_first_line.Goals as goal

pub returns : goal.returns
unfolding first_line result_of
returns c =
    let number = ap (decimal_of 20) c.number.ensures in
    chain _ _ _ _ c.put_word-next.ensures (
    chain _ _ _ _ (said _ _ _ _ number c.put_decimal-next.ensures) (
    chain _ _ _ _ c.put_word-next-2.ensures (
    chain _ _ _ _ c.put_decimal-next-2.ensures (
    chain _ _ _ _ c.put_word-next-3.ensures (
    chain _ _ _ _ c.put_decimal-next-3.ensures (
    chain _ _ _ _ c.put_beside-next.ensures c.put.ensures))))))
