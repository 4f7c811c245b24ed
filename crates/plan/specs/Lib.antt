pub mod Pieces
pub mod Cutting
pub mod Left
pub mod Plans
pub mod Lines
