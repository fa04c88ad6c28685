pub mod NextEvent
pub mod UnitFrame
pub mod CarriedUnits
pub mod RunCounts
pub mod QuietRun
pub mod Links
pub mod Windows
pub mod TurnLoop
