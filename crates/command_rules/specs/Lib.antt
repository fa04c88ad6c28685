pub mod RunsBehindOpening
pub mod LoadObligations
