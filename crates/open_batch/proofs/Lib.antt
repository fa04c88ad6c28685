pub mod Steps
pub mod GrainPlan
pub mod UnitNames
pub mod DecisionInputs
pub mod ModelBatch
pub mod Stages
pub mod YesVotes
