pub mod Trips
pub mod ListTrips
pub mod Alone
pub mod PartTrips
pub mod BindTrips
pub mod EndTrips
pub mod ByteTrips
