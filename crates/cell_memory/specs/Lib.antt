pub mod KeptCells
pub mod LeavingGrains
pub mod ChangedCells
pub mod SpareMemory
