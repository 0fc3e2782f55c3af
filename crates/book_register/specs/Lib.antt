pub mod Choices
pub mod Striking
pub mod Kinds
pub mod Counted
pub mod Views
pub mod Waking
