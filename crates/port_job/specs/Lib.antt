-- The port run against the model is the job: what is claimed.
pub mod OnModel
pub mod Items
pub mod ItIsTheJob
pub mod Traffic
pub mod Looks
