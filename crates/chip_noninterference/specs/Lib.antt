-- Demand 3 in the words of the library's calls.
pub mod OldBytesInCalls
