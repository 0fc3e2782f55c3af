pub mod Marks
pub mod Causes
pub mod Rest
pub mod Whole
pub mod Answering
mod Ending
mod Unstarted
