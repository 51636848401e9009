-- Requests given in numbers.
pub mod Jobs
pub mod Groups
