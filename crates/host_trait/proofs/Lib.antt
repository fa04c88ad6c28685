pub mod Counts
pub mod Names
pub mod Crashes
pub mod Moments
pub mod Runs
