-- What the port last asked for, as a number: for the state's bytes. A number that no stage has is read as Over.
use Rattle.std.specs.Prelude.{ℕ, eqb}
use Rattle.notation.specs.Choice.{when◌then◌else◌}
use Rattle.port.specs.declared.stage.Stage.TheVariants.{Over, Control, Status, First, Waiting, Look, Interrupted, Working, Recovering, Pausing, Recheck}
use Rattle.port.specs.declared.stage.Stage.{Stage}

abbrev pub over : ℕ
over = 0

abbrev pub working : ℕ
working = 7

unfoldable pub stage_number : Stage → ℕ
stage_number Over = over
stage_number Control = 1
stage_number Status = 2
stage_number First = 3
stage_number Waiting = 4
stage_number Look = 5
stage_number Interrupted = 6
stage_number Working = working
stage_number Recovering = 8
stage_number Pausing = 9
stage_number Recheck = 10

unfoldable pub stage_for : ℕ → Stage
stage_for k =
    when eqb k 1 then Control
    else when eqb k 2 then Status
    else when eqb k 3 then First
    else when eqb k 4 then Waiting
    else when eqb k 5 then Look
    else when eqb k 6 then Interrupted
    else when eqb k 7 then Working
    else when eqb k 8 then Recovering
    else when eqb k 9 then Pausing
    else when eqb k 10 then Recheck
    else Over
