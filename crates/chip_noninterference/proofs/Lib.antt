-- Demand 3 of the library's calls.
pub mod OldBytesInCalls
