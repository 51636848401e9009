-- The fresh controller that is enabled: its record, which has 68 places. Assumes nothing.
use mathlib.Core.Bool.{true, false}
use mathlib.Core.Path.{◌≡◌, refl, ap}
use lib.ListN.{length, replicate}
use Rattle.control.specs.Flags.{flags_of}
use Rattle.control.specs.Turn.{kind, status_of}
use Rattle.control.specs.Writing.{response}
use Rattle.control.specs.declared.reason.Reason.TheVariants.{NoneYet}
use Rattle.control.specs.declared.turn.Turn.TheVariants.{Free}
use Rattle.controller.specs.Access.{indirect_at, bars_write, write_sound, write_of}
use Rattle.controller.specs.I2ccon.{keeps, controlled, bad_count, enabled, write_flags, write_control}
use Rattle.controller.specs.Record.{host_sound, move_sound, sound}
use Rattle.controller.specs.Registers.{wrote}
use Rattle.controller.specs.Reply.{refuses, accepts}
use Rattle.controller.specs.Reset.{reset_registers, reset_with}
use Rattle.controller.specs.Setters.{made}
use Rattle.controller.specs.declared.record.Controller.{Controller}
use Rattle.notation.specs.Choice.{when◌then◌else◌, ◌and◌, ◌or◌, among}
use Rattle.requests.specs.Jobs.{fresh_enabled}

pub fresh_enabled_is :
    fresh_enabled ≡ made (replicate 68 0) 0 0 0 false reset_registers (record { aa = false; ensio = true; sta = false; sto = false; mode = false }) Free NoneYet
unfolding when◌then◌else◌ ◌and◌ ◌or◌ among flags_of kind status_of response indirect_at bars_write write_sound write_of keeps controlled bad_count
    enabled write_flags write_control host_sound move_sound sound wrote refuses accepts reset_with
fresh_enabled_is = refl

pub fresh-enabled-places : length fresh_enabled.buffer ≡ 68
fresh-enabled-places = ap (λ (c : Controller). length c.buffer) fresh_enabled_is
