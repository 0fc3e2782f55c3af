pub mod Answers
pub mod Held
pub mod Own
pub mod Patient
pub mod Unended
