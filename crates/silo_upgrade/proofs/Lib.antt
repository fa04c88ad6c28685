pub mod SealedTexts
pub mod SealedImages
pub mod UpgradeEnds
pub mod UpgradedFolders
