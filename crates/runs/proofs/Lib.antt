pub mod Laws
pub mod Ports
pub mod Promises
pub mod Unique
