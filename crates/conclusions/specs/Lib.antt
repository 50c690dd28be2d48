pub mod Stream
pub mod Promises
