pub mod Texts
pub mod MapEntries
pub mod Seats
pub mod Stores
pub mod Places
pub mod Grains
pub mod Lists
pub mod Origins
