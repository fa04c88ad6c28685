pub mod Banks
pub mod Requests
pub mod Summaries
