pub mod Following
pub mod PassedKeys
pub mod Rows
pub mod ByName
pub mod Cancelling
