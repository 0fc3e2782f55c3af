pub mod Acts
pub mod Clients
