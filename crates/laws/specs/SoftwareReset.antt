-- Document 01, Registers, the software reset, as a test of one write.
use Rattle.std.specs.Prelude.{Bool, ℕ}
use Rattle.controller.specs.Access.{indirect_at}
use Rattle.controller.specs.Reset.{completes_reset}
use Rattle.controller.specs.declared.record.Controller.{Controller}
use Rattle.notation.specs.Choice.{◌and◌}

-- the write that completes it, if it is accepted: "5Ah to I2CPRESET as the next accepted write resets", at register 2 with the pointer at 05h
abbrev pub resets_by_software : Controller → ℕ → ℕ → Bool
resets_by_software c register value = indirect_at c register 5 and completes_reset c value
