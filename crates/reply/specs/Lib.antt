pub mod Reply
pub mod Clauses
