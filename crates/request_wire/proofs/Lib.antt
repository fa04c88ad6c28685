pub mod Arguments
pub mod Cuts
pub mod ProgramNames
pub mod NumberLines
pub mod Numerals
pub mod OneLine
pub mod Shapes
