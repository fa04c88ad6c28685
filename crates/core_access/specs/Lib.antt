pub mod Histories
pub mod Sights
pub mod FitAccess
pub mod CallsWithoutMemory
pub mod SettlerEvents
pub mod OneHolder
pub mod PassSights
