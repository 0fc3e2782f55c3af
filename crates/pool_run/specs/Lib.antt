pub mod Logins
pub mod Reaching
pub mod Salts
pub mod Telling
