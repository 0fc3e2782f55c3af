pub mod PoolHashes
pub mod Waiting
pub mod Index
pub mod ShortNames
pub mod PoolIndex
pub mod Numbered
pub mod Telling
