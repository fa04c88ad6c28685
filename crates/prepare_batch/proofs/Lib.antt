pub mod Orders
pub mod JoinedPieces
pub mod GatheredPieces
pub mod CoreWork
