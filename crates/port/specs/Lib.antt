-- The port: the driver for a chip, one register access at a time.
pub mod Stage
pub mod Ask
pub mod Stand
pub mod Look
pub mod InHand
pub mod Hear
pub mod Begin
pub mod HandUp
pub mod Port
