-- Demand 3, proved.
pub mod Blind
pub mod Twin
pub mod TwoRuns
pub mod TwoJobs
pub mod Items
pub mod Theorem
pub mod CallersMemory
