-- Laws of the state's bytes.
pub mod Padded
pub mod ReadBack
pub mod First
pub mod Told
pub mod Emptied
