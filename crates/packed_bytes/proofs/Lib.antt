pub mod Lanes
pub mod Laws
pub mod Right
pub mod Unique
