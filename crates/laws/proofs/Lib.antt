-- Laws of the controller that a reader will ask for.
pub mod Addresses
pub mod Reasons
pub mod Refusals
pub mod Kept
pub mod KeptEvents
pub mod KeptAccesses
pub mod Soundness
pub mod Status
pub mod Status38h
pub mod InPlace
