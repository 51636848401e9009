-- `accept_control` is `controlled`: what is known at each return settles the tests of the definition.
use mathlib.Core.List.{[], ◌∷◌}
use mathlib.Core.Path.{◌≡◌, ◌∙◌}
use borrow.Enum.Refused.{opened}
use Rattle.answer.specs.Refusal.{refusal_of, value_of}
use Rattle.control.proofs.Turning.{at_turn, at_turns, except}
use Rattle.control.specs.Turn.{stopping}
use Rattle.controller.specs.I2ccon.{controlled, keeps}
use Rattle.controller.specs.Registers.{wrote}
use Rattle.controller.specs.Reply.{outcome, accepts}
use Rattle.notation.proofs.Cases.{cases}
use Rattle.controller.proofs.record.Controller.accept_control.Goals.{in-Stopping, in_default}
use Rattle.controller.proofs.record.Controller.accept_control.Goals as goal

pub returns : goal.returns
unfolding controlled keeps wrote outcome refusal_of value_of accepts
returns c =
    let sto : c.match-turn.sto ≡ (keeps c.args.self.now.control c.args.k c.args.turn).sto = elim c.match-turn.branch [
      | in-Stopping w ↦ w.sto-is ∙ search (at_turn stopping c.args.turn w.in-Stopping.in-Stopping-own.keys1, cases)
      | in_default w ↦ w.sto-is ∙ search (at_turns (except (stopping ∷ [])) c.args.turn (opened w.in_default.in_default-own.keys2), cases)
    ] in
    rw sto
