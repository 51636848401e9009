-- Document 01, Registers: I2CDAT, many bytes at once.
pub mod Block
