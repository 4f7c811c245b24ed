pub mod Refusals
pub mod Clock
pub mod Put
