pub mod Keys
pub mod Saying
