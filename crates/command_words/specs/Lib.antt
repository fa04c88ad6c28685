pub mod Parts
pub mod Clap
pub mod Numbers
pub mod CutParts
pub mod Options
