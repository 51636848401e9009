-- Laws of the record, cited by the proofs here and above.
pub mod SoundParts
pub mod Outcomes
