pub mod History
pub mod Hands
pub mod Places
pub mod Passes
pub mod Rule
pub mod PassContracts
