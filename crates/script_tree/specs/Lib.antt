pub mod Exprs
pub mod Stmts
pub mod Programs
pub mod Names
pub mod Options
