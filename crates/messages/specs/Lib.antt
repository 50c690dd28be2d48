pub mod Built
pub mod Clauses
