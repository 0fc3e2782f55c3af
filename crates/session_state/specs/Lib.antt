pub mod Known
pub mod Kept
pub mod Portals
