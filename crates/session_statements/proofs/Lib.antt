pub mod Padding
pub mod Narrow
pub mod Fetching
