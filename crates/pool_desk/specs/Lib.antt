pub mod Classes
pub mod Tells
pub mod Hears
pub mod Joined
pub mod Changes
pub mod Helping
