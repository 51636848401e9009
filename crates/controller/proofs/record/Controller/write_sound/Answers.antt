-- `write_sound` is `write_sound`: what is known at each return settles the tests of the definition.
use Rattle.controller.proofs.SoundParts.{parts}
use Rattle.controller.proofs.record.Controller.write_sound.Goals as goal

pub write_data-requires : goal.write_data-requires
write_data-requires c = (parts c.args.self.now c.requires).hand
