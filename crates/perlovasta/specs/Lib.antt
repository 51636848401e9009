-- What the library's functions give.
pub mod ReportBytes
pub mod Job
pub mod Log
pub mod Trace
pub mod ChipIsController
