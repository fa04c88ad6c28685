pub mod FirstFaults
pub mod Names
pub mod Places
pub mod NamesInScope
pub mod Settings
pub mod Expressions
pub mod Statements
pub mod Bodies
