pub mod DeadUnits
