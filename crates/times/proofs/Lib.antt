pub mod Shape
pub mod Round
pub mod Puts
