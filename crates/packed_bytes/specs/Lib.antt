pub mod Bytes
pub mod Clauses
