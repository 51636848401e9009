-- Claims about the rules, stated apart from their proofs.
pub mod Addresses
pub mod Reasons
pub mod SoftwareReset
pub mod Status38h
