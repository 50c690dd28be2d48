pub mod Nearest
pub mod Reciprocal
pub mod Ranges
pub mod Degrees
pub mod Table
pub mod Promises
pub mod Unique
pub mod Examples
