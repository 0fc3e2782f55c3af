pub mod Both
pub mod InSession
pub mod Splits
pub mod Leasing
pub mod Starting
pub mod Futures
pub mod ByName
pub mod Dialogues
