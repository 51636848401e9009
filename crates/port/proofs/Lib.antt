-- Laws of the accesses in hand, cited by the proofs here; of what is asked for first and of the job, cited by those of crates that stand on this one.
pub mod Totals
pub mod Nth
pub mod Begun
pub mod SameJob
pub mod Stages
