-- Laws of the record's bytes.
pub mod Joined
pub mod Bytes
pub mod Replied
pub mod Places
pub mod ReadBack
