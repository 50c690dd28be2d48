pub mod Exact
pub mod Laws
pub mod Zeros
pub mod Bytes
pub mod Mixed
pub mod Promises
pub mod Unique
