pub mod Choices
pub mod Reading
pub mod Ordering
pub mod Lawful
pub mod Stubs
pub mod ByName
