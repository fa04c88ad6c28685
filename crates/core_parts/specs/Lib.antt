pub mod Pairs
pub mod LineEnds
pub mod Room
pub mod States
