pub mod ProgramNumbers
