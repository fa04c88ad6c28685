mod KeyOrders
mod MapEdits
mod SeatEdits
mod SeatKeys
mod Grains
mod GrainPlaces
pub mod GrainOrder
