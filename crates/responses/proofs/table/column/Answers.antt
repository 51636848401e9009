-- `column` is `column_of`: a bit times its weight is the weight where the bit is set.
use borrow.Author.Rules.{rules}
use Rattle.control.proofs.Weights.{weighed, weighed_one}
use Rattle.responses.specs.Table.{column_of}
use Rattle.responses.proofs.table.column.Goals as goal

pub returns : goal.returns
unfolding column_of
returns c = record {
  column = rw (
    weighed c.args.k.sta 8 c.from.result c.from.ensures,
    weighed c.args.k.sto 4 c.from-2.result c.from-2.ensures,
    weighed c.args.k.aa 2 c.from-3.result c.from-3.ensures,
    weighed_one c.args.k.mode c.from-4.result c.from-4.ensures,
  );
  below = search rules;
}
