-- `reach` is its definition.
use Rattle.block.specs.Block.{reach_of}
use Rattle.notation.proofs.Cases.{calls}
use Rattle.block.proofs.reach.Goals as goal
use Rattle.block.proofs.reach.Goals.{else-is_sound-via-then-is_sound+else-not-on_wire, else-is_sound-via-else-is_sound}

pub returns-then-not-on_wire : goal.returns-then-not-on_wire
unfolding reach_of
returns-then-not-on_wire c = search calls

pub returns-else-is_sound : goal.returns-else-is_sound
unfolding reach_of
returns-else-is_sound c =
    elim c.else-is_sound.branch [
      | else-is_sound-via-then-is_sound+else-not-on_wire w ↦ search calls
      | else-is_sound-via-else-is_sound w ↦ search calls
    ]
