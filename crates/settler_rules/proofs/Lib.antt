pub mod StandingVotes
pub mod NextVote
pub mod Calls
pub mod LoggedUnits
pub mod SettledEntries
pub mod Commits
pub mod ToldOf
pub mod SealWork
