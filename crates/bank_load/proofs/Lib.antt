pub mod BankText
pub mod PrintedRequests
pub mod LoadTexts
pub mod Numbering
pub mod SummaryText
pub mod Bounds
mod CountedEnds
