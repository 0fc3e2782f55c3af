pub mod StartKeys
pub mod Laws
pub mod Cancels
