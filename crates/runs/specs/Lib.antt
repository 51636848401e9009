-- Laws of one run: what they say.
pub mod Demand1
pub mod Accesses
pub mod Flags
pub mod OneRun
pub mod ReasonLeft
