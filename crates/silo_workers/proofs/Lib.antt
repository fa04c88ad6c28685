pub mod CoreMoves
pub mod PassReturns
pub mod JoinedPasses
pub mod ClosedCore
pub mod LoneRun
pub mod SettledRest
pub mod RunStart
