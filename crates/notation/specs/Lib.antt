-- The notation in which the rules are written.
pub mod Choice
pub mod Overlay
