pub mod Clients
pub mod Links
pub mod Worlds
pub mod Steps
pub mod Relation
pub mod Laws
