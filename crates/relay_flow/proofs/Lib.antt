pub mod Parting
pub mod Passing
