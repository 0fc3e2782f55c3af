pub mod Bounds
pub mod Items
pub mod Keys
pub mod Numbers
