-- Every access and event, accepted or refused, takes a sound record to a sound one, and the reset pin makes any record sound.
-- Assumes nothing.
use mathlib.Core.Bool.{true}
use mathlib.Core.Path.{◌≡◌}
use Prim.Native.Nat.{ℕ}
use lib.ListN.{replicate}
use Rattle.controller.specs.Access.{read_of, write_of}
use Rattle.controller.specs.Event.{bad_argument, event_of}
use Rattle.controller.specs.Record.{sound}
use Rattle.controller.specs.Reply.{accepts}
use Rattle.controller.specs.Reset.{fresh}
use Rattle.controller.specs.declared.record.Controller.{Controller}
use Rattle.notation.specs.Choice.{when◌then◌else◌, ◌or◌}
use Rattle.laws.proofs.Kept.{Kept, refused, accepted, either}
use Rattle.laws.proofs.KeptAccesses.{reset-sound, read_kept, write_kept}
use Rattle.laws.proofs.KeptEvents.{event-kept}

read_next : (c : Controller) (register : ℕ) → sound c ≡ true → Kept (read_of c register)
unfolding read_of
read_next c register s = search (refused, read_kept, either)

write-next : (c : Controller) (register value : ℕ) → sound c ≡ true → Kept (write_of c register value)
unfolding write_of
write-next c register value s = search (refused, write_kept, either)

event-next : (c : Controller) (number argument : ℕ) → sound c ≡ true → Kept (event_of c number argument)
unfolding event_of
event-next c number argument s = search (refused, accepted, reset-sound, event-kept, either) depth 8

-- The laws.
pub fresh_is_sound : sound fresh ≡ true
fresh_is_sound = reset-sound (replicate 68 0) _

pub read-stays-sound : (c : Controller) (register : ℕ) → sound c ≡ true → sound (read_of c register).next ≡ true
read-stays-sound c register s = (read_next c register s).next-sound

pub write-stays-sound : (c : Controller) (register value : ℕ) → sound c ≡ true → sound (write_of c register value).next ≡ true
write-stays-sound c register value s = (write-next c register value s).next-sound

pub event-stays-sound : (c : Controller) (number argument : ℕ) → sound c ≡ true → sound (event_of c number argument).next ≡ true
event-stays-sound c number argument s = (event-next c number argument s).next-sound

-- event 14, of any record whatever
pub reset_pin_makes_sound : (c : Controller) → sound (event_of c 14 0).next ≡ true
unfolding event_of bad_argument when◌then◌else◌ ◌or◌ accepts
reset_pin_makes_sound c = reset-sound c.buffer _
