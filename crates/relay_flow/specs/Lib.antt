pub mod Parts
pub mod Flows
