pub mod Bench
pub mod Clauses
