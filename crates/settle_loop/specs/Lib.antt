pub mod ShownWork
pub mod HostSteps
pub mod SettlerStep
pub mod StepParts
pub mod StepJournal
