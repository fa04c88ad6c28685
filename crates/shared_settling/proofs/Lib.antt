pub mod PassSights
pub mod KeptBooks
pub mod StepsBeside
pub mod OthersBooks
pub mod LoneSettler
pub mod Stops
pub mod SettlerLoop
pub mod RunEnds
