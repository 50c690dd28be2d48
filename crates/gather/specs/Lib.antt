pub mod Gather
pub mod Clauses
