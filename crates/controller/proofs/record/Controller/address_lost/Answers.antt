-- `address_lost` is `address_lost`: what is known at each return settles the tests of the definition.
use mathlib.Core.List.{[], ◌∷◌}
use mathlib.Core.Path.{ap, ◌∙◌}
use Rattle.control.proofs.Turning.{at_turn, at_turns, except}
use Rattle.control.specs.Turn.{address}
use Rattle.address.specs.declared.matching.AddressMatch.{AddressMatch}
use Rattle.controller.proofs.Outcomes.{outcomes}
use Rattle.controller.specs.Condition.{outbid, address_lost}
use borrow.Enum.Refused.{opened}
use Rattle.controller.proofs.record.Controller.address_lost.Goals as goal

pub returns-in-Address : goal.returns-in-Address
unfolding address_lost
returns-in-Address c =
    let found = ap (λ (m : AddressMatch). outbid c.args.self.now m.call) c.match_on_bus.ensures in
    search (c.outbid.ensures ∙ found, at_turn address c.args.self.now.turn c.in-Address.in-Address-own.keys1, outcomes)

pub returns-in_default : goal.returns-in_default
unfolding address_lost
returns-in_default c = search (at_turn address c.args.self.now.turn c.in-Address.in-Address-own.keys1, outcomes)

pub returns-in_default-2 : goal.returns-in_default-2
unfolding address_lost
returns-in_default-2 c = search (at_turns (except (address ∷ [])) c.args.self.now.turn (opened c.in_default.in_default-own.keys2), outcomes)
