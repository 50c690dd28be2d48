pub mod Turned
pub mod Promises
pub mod Unique
