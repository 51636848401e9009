-- What the port does, whatever a chip answers: what is claimed.
pub mod Passed
pub mod AnyChip
