pub mod Lines
pub mod Pulls
pub mod Scans
pub mod Windows
pub mod GivenWindows
