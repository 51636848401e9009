-- What the port does, whatever a chip answers: the proofs.
pub mod ByTest
pub mod InHand
pub mod Ahead
pub mod DoneLine
pub mod SinceStatus
pub mod OfJob
pub mod AtWork
pub mod Kept
pub mod JobStays
pub mod OnlyProven
pub mod AnyChip
