pub mod FinishedUnits
pub mod Works
pub mod CrewKnowledge
pub mod BegunUnits
pub mod RoundEnds
pub mod Outset
