pub mod Shown
pub mod Lines
pub mod Events
pub mod Laws
