-- Laws of what requests run on.
pub mod Asked
pub mod FreshEnabled
