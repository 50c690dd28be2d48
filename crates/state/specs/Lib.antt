pub mod State
pub mod Clauses
