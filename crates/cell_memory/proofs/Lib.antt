pub mod Evictions
pub mod TouchedGrains
pub mod EveryEvent
pub mod ChangedCells
pub mod SpareMemory
