pub mod Traffics
pub mod Tallies
pub mod Laws
