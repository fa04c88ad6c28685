pub mod FinishedUnits
pub mod Crews
pub mod Rounds
