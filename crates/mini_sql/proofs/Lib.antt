mod Examples
pub mod Lexing
pub mod Quotes
pub mod Reading
pub mod Steps
pub mod Skipping
pub mod Deriving
pub mod Derived
pub mod Short
pub mod Decimals
