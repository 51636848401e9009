-- A byte that is stored has a place: a record that an access or event leaves with one byte more is one of a record that had room for it. Assumes nothing.
use mathlib.Core.Bool.{true}
use mathlib.Core.Path.{◌≡◌, ap, ◌∙◌}
use Prim.Native.Nat.{ℕ, ◌+◌, ◌<◌}
use native.Mathlib.Omega.{arith}
use Rattle.controller.proofs.SoundParts.{parts}
use Rattle.controller.specs.Access.{write_of}
use Rattle.controller.specs.Event.{event_of}
use Rattle.controller.specs.Record.{sound}
use Rattle.controller.specs.Registers.{wrote}
use Rattle.controller.specs.Reply.{Outcome, ack, accepts, interrupts_at, gives}
use Rattle.controller.specs.Setters.{with_place, with_hand}
use Rattle.controller.specs.Transfer.{received}
use Rattle.controller.specs.declared.record.Controller.{Controller}
use Rattle.laws.proofs.Soundness.{write-stays-sound, event-stays-sound}

module _ (c : Controller) (register value : ℕ) (s : sound c ≡ true) where
  -- a write of I2CDAT that is accepted: the hand place is inside the buffer
  pub loaded-below : (byte : ℕ) → wrote (with_hand (with_place c c.hand byte) (c.hand + 1)) ≡ write_of c register value → c.hand < 68
  unfolding wrote accepts
  loaded-below byte e =
      omega (arith, (parts _ (ap (λ (o : Outcome). sound o.next) e ∙ write-stays-sound c register value s)).hand)

module _ (c : Controller) (number argument : ℕ) (s : sound c ≡ true) where
  -- a data byte that is stored: there is a place for it
  pub received-below : (byte : ℕ) → accepts (received c byte) ack ≡ event_of c number argument → c.moved < 68
  unfolding accepts received
  received-below byte e =
      omega (arith, (parts _ (ap (λ (o : Outcome). sound o.next) e ∙ event-stays-sound c number argument s)).moved)

  pub received-last-below : (status byte value : ℕ) → gives (received c byte) status value ≡ event_of c number argument → c.moved < 68
  unfolding accepts interrupts_at received
  received-last-below status byte value e =
      omega (arith, (parts _ (ap (λ (o : Outcome). sound o.next) e ∙ event-stays-sound c number argument s)).moved)
