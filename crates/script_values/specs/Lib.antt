pub mod Faults
pub mod Values
pub mod Expressions
pub mod Reasons
pub mod Stops
pub mod LocalNames
pub mod Nodes
pub mod Scopes
