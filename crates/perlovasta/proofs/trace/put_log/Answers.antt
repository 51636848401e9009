-- `put_log` lays the log: that of the groups that are left, laid from the place reached, always gives that of all.
use mathlib.Core.List.{List}
use mathlib.Core.Path.{◌≡◌, refl, sym, ap, ◌∙◌}
use Prim.Native.Nat.{ℕ, ◌+◌, ◌*◌, ◌-◌, ◌/◌, ◌<◌, ◌≤◌}
use native.Mathlib.Omega.{arith}
use lib.ListN.{length}
use Rattle.controller.specs.Reply.{outcome}
use Rattle.notation.proofs.Overlay.{at_start, none}
use Rattle.notation.specs.Overlay.{laid_at}
use Rattle.requests.proofs.Asked.{as_asked}
use Rattle.perlovasta.proofs.LogGroups.{log_none, sound_group, same-length, entry_put}
use Rattle.perlovasta.specs.Log.{leaves}
use Rattle.perlovasta.proofs.trace.put_log.Goals as goal

pub loop-i-init : goal.loop-i-init
loop-i-init c = (refl, c.requires.1, at_start _ _)

pub log_entry-requires : goal.log_entry-requires
unfolding outcome
log_entry-requires c = rw (ap (λ o. o.next) c.perform-answer.ensures) (sound_group c.loop-i.c _ _ _ c.loop-i.invariant.1)

pub loop-i-preserved : goal.loop-i-preserved
unfolding outcome leaves
loop-i-preserved c =
    let l = c.loop-i in
    let trace = c.args.trace.now in
    let inside : l.i < length trace / 3 = omega (arith, c.as_chunks.ensures.front_len, c.loop-i-test.true) in
    let eight : 8 * l.i + 8 - 8 * l.i ≡ 8 = omega arith in
    let room : 8 * l.i + 8 ≤ length l.log = omega (arith, inside, c.requires.0, l.invariant.0) in
    let worked = rw c.as_chunks.ensures.front at ((rw c.from.ensures at c.perform-answer.ensures) ∙ as_asked l.c _ _ _) in
    let put = c.copy_from_slice.ensures.after ∙ c.log_entry.ensures in (
      same-length trace l.i inside l.c _ l.log _ _ worked put eight room ∙ l.invariant.0,
      rw (ap (λ o. o.next) c.perform-answer.ensures) (sound_group l.c _ _ _ l.invariant.1),
      entry_put trace l.i inside l.c _ l.log _ _ worked put eight room ∙ l.invariant.2,
    )

pub returns : goal.returns
returns c =
    let l = c.loop-i in
    let trace = c.args.trace.now in
    let over : length trace - 3 * l.i < 3 = omega (arith, c.as_chunks.ensures.front_len, c.loop-i-test.false) in
    sym (ap (λ (xs : List ℕ). laid_at (8 * l.i) xs l.log) (log_none trace (3 * l.i) l.c over) ∙ none (8 * l.i) l.log) ∙ l.invariant.2
