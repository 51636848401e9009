-- The turn, the flags of I2CCON, what writing them does to the turn, and why a move ended.
pub mod Turn
pub mod Reason
pub mod Flags
pub mod Writing
