mod Lists
mod Texts
pub mod Writes
mod LocalPlaces
pub mod Ways
pub mod AddedNodes
