-- `address_byte` is `address_byte`: what is known at each return settles the tests of the definition.
use mathlib.Core.List.{[], ◌∷◌}
use mathlib.Core.Path.{ap, ◌∙◌}
use Rattle.control.proofs.Turning.{at_turn, at_turns, except}
use Rattle.control.specs.Turn.{listen}
use Rattle.address.specs.declared.matching.AddressMatch.{AddressMatch}
use Rattle.controller.proofs.Outcomes.{outcomes}
use Rattle.controller.specs.Condition.{addressed, address_byte}
use borrow.Enum.Refused.{opened}
use Rattle.controller.proofs.record.Controller.address_byte.Goals as goal

pub returns-in-Listen : goal.returns-in-Listen
unfolding address_byte
returns-in-Listen c =
    let found = ap (λ (m : AddressMatch). addressed c.args.self.now m.call) c.match_on_bus.ensures in
    search (c.addressed.ensures ∙ found, at_turn listen c.args.self.now.turn c.in-Listen.in-Listen-own.keys1, outcomes)

pub returns-in_default : goal.returns-in_default
unfolding address_byte
returns-in_default c = search (at_turns (except (listen ∷ [])) c.args.self.now.turn (opened c.in_default.in_default-own.keys2), outcomes)
