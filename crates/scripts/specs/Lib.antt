pub mod Lines
pub mod Left
pub mod Commands
pub mod Printing
