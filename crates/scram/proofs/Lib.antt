pub mod Differences
pub mod Numbers
