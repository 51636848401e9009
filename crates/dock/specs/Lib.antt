-- The port in lent bytes, for C and Rust.
pub mod StateBytes
pub mod Calls
pub mod ReadBack
