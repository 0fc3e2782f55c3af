pub mod Following
pub mod Reporting
pub mod Telling
mod Untracking
