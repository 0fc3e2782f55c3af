pub mod MemoryPools
