pub mod Elements
pub mod Reading
pub mod Outlines
pub mod Laws
