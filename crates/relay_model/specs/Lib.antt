pub mod Verdicts
pub mod Leases
pub mod Laws
pub mod Answers
pub mod Faults
pub mod Steps
