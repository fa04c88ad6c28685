pub mod Blocks
pub mod Callees
pub mod Frames
pub mod OpenBlocks
pub mod Runs
pub mod Machines
