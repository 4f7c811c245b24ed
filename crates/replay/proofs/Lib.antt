pub mod Tails
pub mod Skips
pub mod Waiting
pub mod Schedules
pub mod Standings
pub mod Texts
pub mod Sent
pub mod Runs
