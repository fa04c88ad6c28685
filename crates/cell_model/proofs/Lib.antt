pub mod Units
pub mod Stacks
pub mod LockAnswers
pub mod Sources
pub mod Decisions
