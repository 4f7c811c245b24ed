pub mod Cuts
pub mod Laws
pub mod Notes
pub mod Whole
