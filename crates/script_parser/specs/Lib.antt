pub mod Statements
pub mod EndedStatements
pub mod Methods
pub mod Types
pub mod Programs
pub mod Grammar
pub mod Refusals
