pub mod Fieldings
pub mod Rowings
pub mod Saids
pub mod Catalogued
pub mod Lawfully
