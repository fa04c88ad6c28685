pub mod SharedHistories
pub mod UnitOwnership
pub mod Work
pub mod JoinedPasses
pub mod ClosedCore
