-- Laws that the proofs here cite.
pub mod Holds
pub mod First
pub mod Digits
pub mod Appended
