pub mod Letters
pub mod Parts
pub mod Owner
pub mod Promises
pub mod Unique
