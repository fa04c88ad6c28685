pub mod Parts
pub mod KnownUnits
pub mod Table
pub mod Rooms
