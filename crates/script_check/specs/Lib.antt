pub mod Programs
pub mod AcceptedPrograms
pub mod Mentions
pub mod Shapes
pub mod Comparison
pub mod Carrying
pub mod ChangedPrograms
