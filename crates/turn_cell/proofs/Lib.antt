pub mod Lists
pub mod Names
pub mod Histories
mod NumberRule
mod LastSeat
mod CellRule
mod Ends
pub mod CallSums
