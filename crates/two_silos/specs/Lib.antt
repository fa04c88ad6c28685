pub mod Nodes
pub mod World
pub mod Links
pub mod Promise
pub mod GeneratedEvents
pub mod Summaries
pub mod Money
pub mod LaterWorlds
