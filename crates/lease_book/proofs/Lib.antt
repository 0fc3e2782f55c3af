pub mod Plain
mod Decisions
mod Kept
mod Links
mod Going
mod Holding
mod Returns
mod Striking
mod Showing
