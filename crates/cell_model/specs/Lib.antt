pub mod Units
pub mod Stacks
pub mod Locks
pub mod Sources
pub mod Decisions
pub mod Cells
pub mod Laws
