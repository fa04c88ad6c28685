pub mod Parts
pub mod RunningUnits
mod Entries
mod Tables
mod UnitBegins
