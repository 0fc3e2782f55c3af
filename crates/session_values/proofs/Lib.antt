pub mod Alls
pub mod Digits
pub mod Mapped
pub mod Passing
