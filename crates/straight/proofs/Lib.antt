pub mod Written
pub mod Xor
pub mod Unique
