-- Document 02, request 2: "For job answer 25 the driver still writes 40h, and the record stays at 38h." One list, from the lost job to a finished read,
-- with what each action on it shows.
use Rattle.std.specs.Prelude.{false, List, [], ◌∷◌, ◌≡◌}
use Rattle.address.specs.declared.number.Direction.TheVariants.{Write, Read}
use Rattle.cases.specs.Starred.{Action, write, event, job, Shown, accessed, ran, act}
use Rattle.control.specs.declared.turn.Edge.TheVariants.{Stop}
use Rattle.control.specs.declared.turn.Turn.TheVariants.{Host, Free}
use Rattle.controller.specs.Reset.{fresh}
use Rattle.controller.specs.declared.record.Controller.{Controller}

-- what every action shows, each given the record that the one before left
unfoldable pub all_shown : List Action → Controller → List Shown
all_shown [] c = []
all_shown (a ∷ actions) c = (act a c).shown ∷ all_shown actions (act a c).next

-- the read of case a
abbrev reading : Action
reading = job Read 0x50 1 [] (0x01 ∷ 0x00 ∷ 0x06 ∷ 0x00 ∷ 0x07 ∷ 0x5C ∷ 0x04 ∷ 0x00 ∷ [])

abbrev pub lost_and_after : List Action
lost_and_after =
    -- a fresh controller, enabled; a write of 1 to 50h, the address acknowledged and the data byte lost
    write 3 0x40 ∷ job Write 0x50 1 (0x11 ∷ []) (0x01 ∷ 0x00 ∷ 0x06 ∷ 0x00 ∷ 0x09 ∷ 0x00 ∷ []) ∷
    -- another's START, and another job
    event 2 0 ∷ reading ∷
    -- 50h, with STO set, and another job
    write 3 0x50 ∷ reading ∷
    -- another's STOP, and the job again
    event 3 0 ∷ reading ∷ []

-- 25; 22 until another's STOP came; done
abbrev pub lost_and_after_shows : List Shown
lost_and_after_shows =
    accessed 0 Free ∷ ran 25 0 3 (0xA0 ∷ []) [] false ∷
    accessed 8 (Host 0x38 Stop) ∷ ran 22 0 0 [] [] false ∷
    accessed 0 (Host 0x38 Stop) ∷ ran 22 0 0 [] [] false ∷
    accessed 0 Free ∷ ran 0 1 4 (0xA1 ∷ []) (0x5C ∷ []) false ∷ []

abbrev pub AfterLost : Type 0
AfterLost = all_shown lost_and_after fresh ≡ lost_and_after_shows
