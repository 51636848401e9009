-- `log_entry` is its definition: each byte is what a call promises, or stands in the record.
use Rattle.laws.proofs.Status.{status-reads, control-reads}
use Rattle.perlovasta.specs.Log.{leaves, entry_of}
use Rattle.perlovasta.proofs.log.log_entry.Goals as goal

pub returns : goal.returns
unfolding entry_of leaves
returns c =
    let status = status-reads c.args.c.now c.requires in
    let control = control-reads c.args.c.now c.requires in
    cc
