pub mod Quiet
pub mod Growth
pub mod Moving
pub mod Following
pub mod Promised
pub mod Sent
