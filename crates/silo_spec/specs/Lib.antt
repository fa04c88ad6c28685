pub mod Silos
pub mod Slots
pub mod OtherSlot
pub mod Moments
pub mod Creation
pub mod OpenedDisks
