pub mod Exact
pub mod PupilAt
pub mod Ranges
pub mod Unique
