-- Laws that the proofs here cite.
pub mod Numbers
pub mod Places
pub mod LogGroups
pub mod Few
pub mod Answered
pub mod JobPlaces
pub mod ChipIsController
