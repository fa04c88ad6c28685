pub mod Members
pub mod TakenBatch
pub mod ShownBatch
