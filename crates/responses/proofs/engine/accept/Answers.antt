-- `accept` is `controlled`: STO as the turn that the write leads to says.
use mathlib.Core.List.{[], ◌∷◌}
use mathlib.Core.Path.{◌≡◌, ◌∙◌}
use borrow.Enum.Refused.{opened}
use Rattle.answer.specs.Refusal.{refusal_of, value_of}
use Rattle.control.proofs.Turning.{at_turn, at_turns, except}
use Rattle.control.specs.Turn.{stopping}
use Rattle.controller.specs.I2ccon.{controlled, keeps}
use Rattle.controller.specs.Registers.{wrote}
use Rattle.controller.specs.Reply.{outcome, accepts}
use Rattle.notation.proofs.Cases.{cases}
use Rattle.responses.proofs.engine.accept.Goals.{in-Stopping, in_default}
use Rattle.responses.proofs.engine.accept.Goals as goal

pub returns : goal.returns
unfolding controlled keeps wrote outcome refusal_of value_of accepts
returns c =
    let flags : c.match-turn.flags ≡ keeps c.args.c.now.control c.args.k c.args.turn = elim c.match-turn.branch [
      | in-Stopping w ↦ w.flags-is ∙ search (at_turn stopping c.args.turn w.in-Stopping.in-Stopping-own.keys1, cases)
      | in_default w ↦ w.flags-is ∙ search (at_turns (except (stopping ∷ [])) c.args.turn (opened w.in_default.in_default-own.keys2), cases)
    ] in
    rw flags
