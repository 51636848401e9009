-- The program `job`.
pub mod Program
