pub mod Hosts
pub mod Requests
pub mod Responses
