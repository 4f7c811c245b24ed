pub mod Nesting
pub mod Shapes
pub mod Bounds
