pub mod Faults
pub mod Files
pub mod Disk
pub mod World
pub mod Runs
