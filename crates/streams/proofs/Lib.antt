pub mod Accepts
pub mod Preparing
