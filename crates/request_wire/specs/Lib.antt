pub mod Lines
pub mod Names
pub mod Request
pub mod Reply
