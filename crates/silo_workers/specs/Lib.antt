pub mod PassFrame
pub mod WorkerPasses
pub mod SettlerThread
pub mod RunEnd
