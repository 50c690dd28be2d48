pub mod Lanes
pub mod Pairs
pub mod Stored
pub mod Unique
pub mod Words
