pub mod Cuts
pub mod Standing
pub mod Still
pub mod Following
pub mod Places
pub mod Giving
pub mod GivenWindows
