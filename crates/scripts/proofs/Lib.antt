pub mod Ends
pub mod Columns
pub mod Blanks
