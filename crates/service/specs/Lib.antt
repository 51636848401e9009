-- Document 01, Jobs: what a job asks for, and what is done about it.
pub mod Request
pub mod Progress
pub mod Act
pub mod Serve
pub mod JobSteps
pub mod JobTable
