pub mod Packets
pub mod Logs
pub mod Node
pub mod SoundLog
pub mod Orders
pub mod LogCache
pub mod Participants
pub mod Coordinators
