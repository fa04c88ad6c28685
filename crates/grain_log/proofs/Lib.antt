pub mod VersionPlaces
pub mod Versions
pub mod VersionUnits
