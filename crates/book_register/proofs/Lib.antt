pub mod Striking
pub mod Choices
pub mod Takes
pub mod Returns
pub mod Returning
pub mod Decisions
pub mod Beginnings
