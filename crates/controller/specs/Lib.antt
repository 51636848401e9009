-- The controller, by the sections of document 01.
pub mod Record
pub mod Setters
pub mod Reply
pub mod Reset
pub mod Registers
pub mod I2ccon
pub mod Access
pub mod Condition
pub mod Transfer
pub mod Event
