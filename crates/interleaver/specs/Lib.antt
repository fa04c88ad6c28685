pub mod Flights
pub mod LastLook
pub mod Turns
pub mod TurnStages
pub mod SureUnits
pub mod EndedTurns
