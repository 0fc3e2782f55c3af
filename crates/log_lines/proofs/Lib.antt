pub mod Printing
pub mod Refusing
