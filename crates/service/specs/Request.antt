-- Document 01, Jobs, answers 21 and 22: a job that is wrong in itself, and a controller that is not ready for one.
use Rattle.std.specs.Prelude.{Bool, not, [], ◌∷◌, ℕ, ◌%◌, eqb, ltb}
use Rattle.address.specs.declared.number.Address.{Address}
use Rattle.address.specs.declared.number.Direction.TheVariants.{Write, Read}
use Rattle.address.specs.declared.number.Direction.{Direction}
use Rattle.control.specs.Turn.{free, waits}
use Rattle.controller.specs.Record.{sound}
use Rattle.controller.specs.declared.record.Controller.{Controller}
use Rattle.service.specs.declared.job.Job.{Job}
use Rattle.notation.specs.Choice.{◌and◌, ◌or◌}

-- "n not 1..68"
unfoldable pub bad_length : ℕ → Bool
bad_length n = eqb n 0 or ltb 68 n

-- "address not 08h..77h"
unfoldable pub bad_address : Address → Bool
bad_address address = ltb address.0 0x08 or ltb 0x77 address.0

-- a write has its data lent, a read its destination: the length of the one that counts
unfoldable pub lent : Direction → ℕ → ℕ → ℕ
lent Write dataLength destination_length = dataLength
lent Read dataLength destination_length = destination_length

-- 21: "n not 1..68, address not 08h..77h, data or destination shorter than n, out record under 69, or script of odd length"
unfoldable pub malformed : Job → ℕ → ℕ → ℕ → ℕ → Bool
malformed job dataLength destination_length out_length scriptLength =
    bad_length job.n or bad_address job.address or ltb (lent job.direction dataLength destination_length) job.n or
    ltb out_length 69 or eqb (scriptLength % 2) 1

-- 22: "turn not Free, ENSIO 0, STA 1, or record not sound" is when the controller is not ready
unfoldable pub ready : Controller → Bool
ready c = sound c and waits c.turn (free ∷ []) and c.control.ensio and not c.control.sta
