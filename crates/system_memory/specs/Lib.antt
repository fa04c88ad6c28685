pub mod MemoryState
pub mod ShownState
pub mod Laws
