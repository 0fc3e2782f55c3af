pub mod Talk
pub mod Dialogue
pub mod Solo
pub mod Logins
pub mod Laws
