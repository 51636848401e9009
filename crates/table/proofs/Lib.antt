-- Laws of what is printed.
pub mod OneMore
pub mod Size
