-- Laws of the turns, cited by the proofs here and above.
pub mod Turning
pub mod Weights
