pub mod Codes
pub mod Faults
pub mod Notices
pub mod Options
pub mod Report
pub mod Shown
pub mod Users
pub mod Words
