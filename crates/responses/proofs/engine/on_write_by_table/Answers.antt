-- `on_write_by_table` is `write_of` of I2CCON: with ENSIO 1 by the entry for the status, with ENSIO 0 beside the table, and refusal 10.
use mathlib.Core.Path.{sym, ◌∙◌}
use Rattle.controller.specs.Access.{write_of}
use Rattle.controller.proofs.Outcomes.{outcomes}
use Rattle.controller.specs.I2ccon.{write_flags}
use Rattle.notation.proofs.Cases.{cases}
use Rattle.responses.specs.Engine.{disabled}
use Rattle.responses.proofs.EntriesRule.{writes-flags, aligned, entries_rule}
use Rattle.responses.proofs.engine.on_write_by_table.Goals as goal

pub returns-then-k : goal.returns-then-k
returns-then-k c =
    let args = c.args in
    let k = c.from-k.ensures in
    let is-sound = sym c.is_sound.ensures ∙ c.if-not-is_sound.false in
    c.follow.ensures
    ∙ rw (c.entry_at.ensures, c.status.ensures, aligned args.c.now is-sound, k)
    (entries_rule args.c.now args.value is-sound (rw k at c.if-k.true))

pub returns-else-k : goal.returns-else-k
unfolding disabled write_flags
returns-else-k c =
    let args = c.args in
    let k = c.from-k.ensures in
    let is-sound = sym c.is_sound.ensures ∙ c.if-not-is_sound.false in
    c.disable.ensures ∙ rw (k, writes-flags args.c.now args.value is-sound) (search (rw k at c.if-k.false, cases))

pub returns-then-not-is_sound : goal.returns-then-not-is_sound
unfolding write_of
returns-then-not-is_sound c = search (sym c.is_sound.ensures ∙ c.if-not-is_sound.true, outcomes)
