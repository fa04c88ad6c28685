pub mod Upgrades
pub mod KeptStates
