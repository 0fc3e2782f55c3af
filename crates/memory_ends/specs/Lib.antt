pub mod Clients
pub mod Dialogues
pub mod Servers
pub mod Failing
pub mod Gone
