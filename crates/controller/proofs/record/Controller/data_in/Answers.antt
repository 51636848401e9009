-- `data_in` is `data_in`: what is known at each return settles the tests of the definition.
use mathlib.Core.Path.{sym, ◌∙◌}
use native.Mathlib.Omega.{arith}
use Rattle.answer.specs.Refusal.{refusal_of, value_of}
use Rattle.controller.proofs.SoundParts.{cursor-below}
use Rattle.controller.specs.Reply.{outcome, accepts}
use Rattle.controller.specs.Transfer.{acknowledges_last, received, data_in}
use Rattle.notation.proofs.Cases.{when-true, when-false}
use Rattle.controller.proofs.record.Controller.data_in.Goals as goal

pub bounds-self-at : goal.bounds-self-at
bounds-self-at c = omega (arith, c.cursor-at.ensures, cursor-below c.args.self.now c.requires)

pub returns-then-not-last : goal.returns-then-not-last
unfolding data_in received outcome refusal_of value_of accepts
returns-then-not-last c = rw c.cursor-at.ensures (sym (when-false _ _ _ (sym c.is_last-last.ensures ∙ c.if-not-last.true)))

pub returns-then-acknowledges_last : goal.returns-then-acknowledges_last
unfolding data_in received acknowledges_last
returns-then-acknowledges_last c =
    let last = sym c.is_last-last.ensures ∙ c.if-not-last.false in
    let acknowledged = sym c.acknowledges_last.ensures ∙ c.if-acknowledges_last.true in
    c.give.ensures ∙ rw c.cursor-at.ensures (sym (when-true _ _ _ last ∙ when-true _ _ _ acknowledged))

pub returns-else-acknowledges_last : goal.returns-else-acknowledges_last
unfolding data_in received acknowledges_last
returns-else-acknowledges_last c =
    let last = sym c.is_last-last.ensures ∙ c.if-not-last.false in
    let refused = sym c.acknowledges_last.ensures ∙ c.if-acknowledges_last.false in
    c.give-else-acknowledges_last.ensures ∙ rw c.cursor-at.ensures (sym (when-true _ _ _ last ∙ when-false _ _ _ refused))
