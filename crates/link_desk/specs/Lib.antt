pub mod Passes
pub mod Homes
pub mod Refusing
pub mod Counts
pub mod Cancels
pub mod Grants
