mod Keys
pub mod Pairs
mod Pieces
