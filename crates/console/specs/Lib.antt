-- What the programs print.
pub mod JobText
pub mod ReasonText
pub mod TurnText
pub mod WardLog
