pub mod Homes
pub mod Starting
