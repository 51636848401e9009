-- Document 01, Jobs: the run over a script, and what a job gives.
pub mod Run
