-- Demand 3, as document 01 spells it out.
pub mod OldBytes
pub mod CallersMemory
