-- Laws that the proofs here cite.
pub mod Parts
pub mod Whole
