-- What the program prints.
pub mod Words
pub mod TableText
