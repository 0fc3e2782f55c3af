pub mod Connections
pub mod Deferring
pub mod Reading
