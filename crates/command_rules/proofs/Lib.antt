pub mod RunsBehindOpening
pub mod LoadImages
pub mod LoadKept
pub mod Balances
