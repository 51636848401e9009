-- Laws that the proofs here cite.
pub mod Printed
pub mod Sizes
