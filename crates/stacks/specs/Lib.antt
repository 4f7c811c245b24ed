pub mod Calls
pub mod Still
pub mod Sendings
pub mod Promise
