pub mod Backward
pub mod Fills
pub mod Lines
pub mod Timetables
pub mod Scanning
pub mod Latest
pub mod Ends
