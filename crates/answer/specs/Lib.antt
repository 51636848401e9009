-- Answers in document 01's numbers.
pub mod Refusal
pub mod Ending
