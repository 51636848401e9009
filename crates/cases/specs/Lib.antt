-- Document 01, Cases; an example for request 2; the statuses that jobs meet.
pub mod Starred
pub mod AfterLost
pub mod Statuses
