pub mod ShownWork
pub mod HostAnswers
pub mod ToldEvents
pub mod StepParts
pub mod LoneSteps
pub mod StepJournal
