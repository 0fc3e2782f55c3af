pub mod Quotes
pub mod Unquoted
