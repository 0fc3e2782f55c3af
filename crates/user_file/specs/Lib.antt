pub mod Fields
pub mod Passwords
pub mod Salts
pub mod Secrets
pub mod Users
