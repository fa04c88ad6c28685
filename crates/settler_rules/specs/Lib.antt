pub mod Votes
pub mod LoggedUnits
pub mod Entries
pub mod CommittedUnits
