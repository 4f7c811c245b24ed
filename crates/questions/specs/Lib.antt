pub mod Resolved
pub mod Schedules
pub mod Texts
pub mod Walks
pub mod Asking
pub mod Scans
pub mod Begun
