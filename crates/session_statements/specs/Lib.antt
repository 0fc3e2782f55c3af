pub mod Found
pub mod Rans
