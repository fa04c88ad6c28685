pub mod Steps
pub mod ItemLists
pub mod Soundness
pub mod Completeness
pub mod CallLaws
pub mod NamePlaces
pub mod Locality
pub mod LocalExpressions
