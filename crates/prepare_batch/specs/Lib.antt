pub mod Work
pub mod Pieces
pub mod CoreWork
