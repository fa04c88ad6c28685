pub mod Replies
pub mod MachineState
pub mod CoreLink
pub mod AgentStep
pub mod ShownMoves
pub mod Wishes
