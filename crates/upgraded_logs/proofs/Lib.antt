pub mod Standings
pub mod KeptGrains
pub mod Numbers
pub mod Fields
pub mod NumberedStates
