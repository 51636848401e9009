-- `note` puts a byte sent at its place: what is laid after it stands as if the byte were laid with it.
use mathlib.Core.Path.{◌≡◌, sym, ap, ◌∙◌}
use Prim.Native.Nat.{◌+◌}
use native.Mathlib.Omega.{arith}
use Rattle.std.proofs.lemmas.Grind.{common_steps}
use Rattle.notation.specs.Choice.{when◌then◌else◌}
use Rattle.notation.specs.Overlay.{laid_at}
use Rattle.notation.proofs.Overlay.{one_more, past_end}
use Rattle.driver.proofs.out_record.note.Goals as goal
use Rattle.driver.proofs.out_record.note.Goals.{then-sent-out, else-sent-out}

pub returns-then-event-ne6 : goal.returns-then-event-ne6
unfolding when◌then◌else◌
returns-then-event-ne6 c = grind (arith, common_steps)

pub returns-clause-noted : goal.returns-clause-noted
unfolding when◌then◌else◌
returns-clause-noted c =
    let s = c.args in
    let out = s.out.now in
    let six : s.event ≡ 6 = c.if-event-ne6.false in
    λ later. rw six (elim c.if-sent-out.branch [
      | then-sent-out w ↦ ap (laid_at (s.sent + 1) later) w.out-is ∙ one_more s.sent s.value later out w.if-sent-out.true
      | else-sent-out w ↦
          let full = w.if-sent-out.false in
          ap (laid_at (s.sent + 1) later) w.out-is ∙ past_end (s.sent + 1) later out (omega arith) ∙ sym (past_end s.sent _ out full)
    ])

pub returns-clause-next : goal.returns-clause-next
unfolding when◌then◌else◌
returns-clause-next c = grind (arith, common_steps)
