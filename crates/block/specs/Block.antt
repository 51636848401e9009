-- Accesses of I2CDAT (register 1), one after the other, each by the controller's own rule, so that the code may make many at once. No rule of document
-- 01 stands here: what a refused one leaves and gives is the controller's.
use Rattle.std.specs.Prelude.{List, [], ◌∷◌, ℕ, zero, suc}
use Rattle.control.specs.Turn.{waits, wire_turns}
use Rattle.controller.specs.Access.{read_of, write_of}
use Rattle.controller.specs.Record.{sound}
use Rattle.controller.specs.declared.record.Controller.{Controller}
use Rattle.notation.specs.Choice.{when◌then◌else◌}

-- the record after these bytes were written
unfoldable pub written : List ℕ → Controller → Controller
written [] c = c
written (x ∷ xs) c = written xs (write_of c 1 x).next

-- the record after so many reads
unfoldable pub after_reads : ℕ → Controller → Controller
after_reads zero c = c
after_reads (suc more) c = after_reads more (read_of c 1).next

-- what so many reads give
unfoldable pub values_read : ℕ → Controller → List ℕ
values_read zero c = []
values_read (suc more) c = (read_of c 1).value ∷ values_read more (read_of c 1).next

-- For the code's speed, and no rule: I2CDAT reaches the places below this: 68 of them, and none where the record isn't sound (refusal 10) or in a wire
-- turn (3)
unfoldable pub reach_of : Controller → ℕ
reach_of c = when sound c then (when waits c.turn wire_turns then 0 else 68) else 0
