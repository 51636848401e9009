-- Addresses, and which of them a controller answers to.
pub mod Number
pub mod Matching
