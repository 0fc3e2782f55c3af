pub mod Answering
pub mod Cutting
pub mod Knowing
pub mod Receipts
pub mod Reporting
pub mod Resetting
pub mod Told
