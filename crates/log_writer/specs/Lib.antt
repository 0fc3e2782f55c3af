pub mod Queues
pub mod Limits
