pub mod Talking
pub mod Connecting
