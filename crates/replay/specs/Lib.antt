pub mod Readings
pub mod Replays
pub mod Walks
