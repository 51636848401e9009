-- Laws of the notation, cited by the proofs of the crates above.
pub mod Cases
pub mod Among
pub mod Overlay
pub mod Laid
pub mod Lists
