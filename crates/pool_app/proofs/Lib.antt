mod Options
pub mod Taken
