pub mod Codec
pub mod Clauses
pub mod Places
pub mod Ranges
