pub mod Calls
pub mod Laws
pub mod Unique
pub mod Promises
