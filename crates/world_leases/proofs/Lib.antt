pub mod Returns
pub mod Leases
pub mod Cancels
pub mod Groups
