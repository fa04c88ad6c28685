pub mod Cells
pub mod LeavingGrains
