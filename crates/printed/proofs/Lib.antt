pub mod Laws
pub mod Characters
pub mod Unique
