pub mod CarriedUnits
pub mod Lines
