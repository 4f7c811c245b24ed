pub mod Approvals
pub mod Delays
pub mod Delayings
pub mod Choosing
pub mod Piles
