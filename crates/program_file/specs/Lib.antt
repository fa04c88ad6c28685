pub mod Programs
pub mod Files
pub mod Answers
pub mod Succession
pub mod ProgramsInTurn
