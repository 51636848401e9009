-- The response table, and what its engine does beside it.
pub mod Entry
pub mod Table
pub mod Engine
