pub mod Cuts
pub mod Decimal
pub mod Law
pub mod Filled
pub mod Skipped
