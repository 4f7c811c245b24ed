pub mod Faults
pub mod Parts
pub mod Left
pub mod Numbers
pub mod Levels
