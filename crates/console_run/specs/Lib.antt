pub mod Exchanges
pub mod Passing
pub mod Talks
pub mod Turns
