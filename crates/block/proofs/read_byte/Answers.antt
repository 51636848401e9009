-- `read_byte` is one read of I2CDAT: below the reach it is accepted, else refused.
use mathlib.Core.Path.{sym, ◌∙◌}
use Prim.Native.Nat.{◌<◌, ◌≤◌}
use native.Mathlib.Omega.{arith}
use Rattle.block.specs.Block.{reach_of}
use Rattle.block.proofs.DataAccess.{reach_most, reach_stays, read-inside, read-outside}
use Rattle.block.proofs.read_byte.Goals as goal

pub bounds-c-hand : goal.bounds-c-hand
bounds-c-hand c = omega (arith, reach_most c.args.c.now)

pub returns-then-past : goal.returns-then-past
returns-then-past c =
    let start = c.args.c.now in
    let past : reach_of start ≤ start.hand = omega arith in
    let g = read-outside start past in
    record { next = sym g.0; value = sym g.1; reach = c.requires }

pub returns : goal.returns
returns c =
    let start = c.args.c.now in
    let below : start.hand < reach_of start = omega arith in
    let g = read-inside start below in
    record { next = sym g.0; value = sym g.1; reach = reach_stays start _ _ below ∙ c.requires }
