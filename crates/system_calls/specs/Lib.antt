pub mod System
pub mod Answers
