pub mod Credentials
pub mod Exchanges
