pub mod Lists
pub mod Founds
pub mod Blocks
pub mod AcceptedBodies
pub mod ScopePlaces
pub mod Lefts
