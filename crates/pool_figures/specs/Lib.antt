pub mod Figures
pub mod Seen
