-- Text in lent memory and in memory of a fixed size.
pub mod Text
