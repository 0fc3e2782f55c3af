pub mod Places
pub mod Numbering
pub mod Noting
