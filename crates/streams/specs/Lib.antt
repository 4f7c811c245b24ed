pub mod Streams
pub mod Stacks
pub mod Taking
pub mod Tables
pub mod Fronts
pub mod Live
pub mod Handing
pub mod Prepared
