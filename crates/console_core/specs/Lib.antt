pub mod Commands
pub mod Tables
pub mod Config
pub mod Replies
pub mod Messages
pub mod Views
