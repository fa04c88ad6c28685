pub mod Steps
pub mod NewSilos
pub mod Counts
pub mod OpenedSilo
pub mod Inits
pub mod CommandCalls
