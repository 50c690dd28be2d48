pub mod Exact
pub mod Blames
pub mod Unique
pub mod Promises
