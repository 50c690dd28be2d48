pub mod Exact
pub mod Unique
