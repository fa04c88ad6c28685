pub mod Logs
pub mod Images
