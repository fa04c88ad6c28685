pub mod Gates
pub mod Blocks
pub mod Log
pub mod Counts
