pub mod PlayProgress
pub mod Steps
