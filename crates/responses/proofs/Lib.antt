-- Laws of the response table.
pub mod Agreement
pub mod Columns
pub mod EntriesRule
