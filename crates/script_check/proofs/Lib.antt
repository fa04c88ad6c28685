pub mod Declarations
pub mod WholePrograms
pub mod TypeShapes
pub mod Firsts
pub mod MentionedNames
pub mod ComparedNames
pub mod CarriedFields
pub mod TypesByNumber
