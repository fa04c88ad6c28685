pub mod Entries
pub mod Sights
pub mod Knowledge
pub mod OneHolder
pub mod ByPass
pub mod Growth
pub mod SettlerEvents
