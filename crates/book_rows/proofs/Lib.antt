pub mod PoolHashes
pub mod Pooling
pub mod Numbering
pub mod Indexing
pub mod Lasts
pub mod ShortNames
pub mod Telling
