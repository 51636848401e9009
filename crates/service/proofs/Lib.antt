-- Laws that hold of every table, and of every job that is not answered 21.
pub mod Blocks
pub mod AccessesLeave
pub mod Sound
pub mod AnyTable
pub mod Formed
