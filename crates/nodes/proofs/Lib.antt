pub mod Alterable
pub mod Commutes
pub mod Chosens
pub mod Over
pub mod Piling
