pub mod Upgrading
pub mod LogBlocks
mod PieceFlags
pub mod CheckpointLoop
pub mod RecordSums
pub mod Orders
pub mod BlockLoop
pub mod Errors
pub mod NamedVersions
pub mod GrainVersions
pub mod LatestVersions
pub mod StepFaults
pub mod FilePieces
pub mod PlacedVersions
pub mod EntriesRead
pub mod ReadPrograms
pub mod EntriesAdded
