pub mod Pieces
pub mod Logins
pub mod Turns
pub mod Leases
pub mod Tables
