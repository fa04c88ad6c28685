pub mod TokenReaders
pub mod Tokens
pub mod Expressions
pub mod Calls
pub mod Grammar
