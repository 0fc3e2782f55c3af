pub mod Headline
pub mod Cancels
