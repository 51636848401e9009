-- The starred cases, shown.
pub mod Starred
