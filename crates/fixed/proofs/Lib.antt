pub mod Exact
pub mod Fine
pub mod Given
pub mod Ranges
pub mod Promises
pub mod Unique
