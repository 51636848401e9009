-- Laws that the proofs here and above cite.
pub mod DataAccess
pub mod Rounds
