pub mod DatabaseValues
pub mod Hosts
pub mod Lines
pub mod OptionValues
pub mod Reading
pub mod Bounds
pub mod Tables
pub mod Values
