pub mod Rows
pub mod ClapWalk
pub mod CutFacts
pub mod Picks
pub mod WordParts
pub mod ChosenOptions
pub mod SpelledOptions
pub mod Commands
