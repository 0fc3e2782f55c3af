pub mod Every
pub mod Cancelling
