pub mod Limits
pub mod Holding
